use Rattle.std.proofs.Common.{◌∙◌, ◌≤◌, ap, sym, length, arith}
use Rattle.ax_cache.specs.Lru.{pages_of}
use Rattle.ax_cache.proofs.LruLemmas.{place_eq, place_test, popped, removed_few}
use Rattle.ax_cache.proofs.lru_pages.LruPages.forget.Goals as goal

pub invariant_of-self : goal.invariant_of-self
invariant_of-self c = record {
  few = omega (
    arith,
    ap (λ cache. length cache.entries) c.pop-gone.ensures.entries,
    ap (λ cache. cache.cap) c.pop-gone.ensures.entries,
    removed_few
        (place_eq c.args.key) c.args.self.now.pages.entries,
    c.args.self.now.few,
  );
}

pub returns-clause-pages : goal.returns-clause-pages
returns-clause-pages c =
    ap (λ cache. pages_of (λ payload. payload.items) cache.entries) c.pop-gone.ensures.entries
    ∙ popped (λ payload. payload.items) place_eq place_test c.args.self.now.pages.entries c.args.key c.len-before.ensures.valid.0
