use Rattle.std.proofs.Common.{◌∙◌, ap, sym, List, ℕ, Some, option_map}
use Rattle.ax_cache.proofs.LruLemmas.{place_eq, place_test, found}
use Rattle.ax_cache.proofs.lru_pages.LruPages.peek.Goals as goal

pub returns-in-Some : goal.returns-in-Some
returns-in-Some c =
    ap (λ (bytes : List ℕ). Some bytes) c.as_slice.ensures.value ∙ ap (option_map (λ payload. payload.items)) c.in-Some.ensures
    ∙ sym (found (λ payload. payload.items) place_eq place_test c.args.self.now.pages.entries c.args.key)

pub returns-in-None : goal.returns-in-None
returns-in-None c =
    ap (option_map (λ payload. payload.items)) c.in-None.ensures
    ∙ sym (found (λ payload. payload.items) place_eq place_test c.args.self.now.pages.entries c.args.key)
