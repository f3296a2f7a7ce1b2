-- The bytes of a text before its first quote or backslash do nothing.
use Rattle.std.proofs.Common.{◌≡◌, ℕ, zero, suc, ◌<◌, ◌≤◌, Bool, false, List, [], ◌∷◌, length, drop, Option, Some, None, refl, sym, ap, ◌∙◌, arith}
use Rattle.std.proofs.lemmas.List.{drop_all}
use Rattle.std.specs.Option.{MatchOption}
use Rattle.memchr.specs.Find.{Nowhere, Passes, IsFirstByte, is_byte2}
use Rattle.ax_skim.specs.Skipping.{past_text}
use Rattle.ax_skim.proofs.Passing.{plain_in_text}

abbrev does_something : ℕ → Bool
does_something = is_byte2 34 92

skipped : (text : List ℕ) (k : ℕ) → k ≤ length text → Nowhere (Passes does_something text) 0 k
    → past_text false (drop k text) ≡ past_text false text
skipped text zero within none = refl
skipped [] (suc k) within none = absurd (omega arith)
skipped (x ∷ text) (suc k) within none =
    skipped text k (omega arith) (λ j low high. none (suc j) (omega arith) (omega arith))
    ∙ sym (plain_in_text x text (λ is. none 0 (omega arith) (omega arith) (ap does_something is))
    (λ is. none 0 (omega arith) (omega arith) (ap does_something is)))

pub first_found : (text : List ℕ) (at : Option ℕ) → IsFirstByte (is_byte2 34 92) text at
    → MatchOption at (past_text false text ≡ None)
    (λ k. past_text false (drop k text) ≡ past_text false text)
first_found text None none =
    sym (skipped text (length text) (omega arith) none)
    ∙ ap (past_text false) (drop_all (length text) text (omega arith))
first_found text (Some k) first =
    let high : k < length text = first.0.high in
    skipped text k (omega arith) first.0.before
