-- The numbers of pairs from a place on: a step of the loop that puts them.
use Rattle.std.proofs.Common.{◌≡◌, ℕ, ◌+◌, List, [], ◌∷◌, ◌++◌, drop, ap, ◌∙◌, sym, Bool, true, false, cond, Some}
use Rattle.std.proofs.lemmas.List.{append_assoc}
use Rattle.std.specs.List.{slice_get}
use Rattle.ax_pair.specs.declared.pair.Pair.{Pair}
use Rattle.ax_pair_list.proofs.Reading.{drop_one}
use Rattle.ax_term.specs.declared.range.TermRange.{TermRange}
use Rattle.ax_index.specs.Reading.{numbers_of}
use Rattle.ax_index.specs.Wanted.{is_in_some}

pub numbers_taken : (ranges : List TermRange) (pairs : List Pair) (i : ℕ) (p : Pair) (old new whole : List ℕ) → slice_get pairs i ≡ Some p
    → is_in_some ranges p.term ≡ true → new ≡ old ++ p.number ∷ []
    → old ++ numbers_of ranges (drop i pairs) ≡ whole → new ++ numbers_of ranges (drop (i + 1) pairs) ≡ whole
numbers_taken ranges pairs i p old new whole e within put was =
    let rest : List ℕ = numbers_of ranges (drop (i + 1) pairs) in
    ap (λ ns. ns ++ rest) put ∙ append_assoc old (p.number ∷ []) rest
    ∙ ap (λ ns. old ++ ns) (sym (ap (λ (b : Bool). cond b (p.number ∷ rest) rest) within))
    ∙ ap (λ ps. old ++ numbers_of ranges ps) (sym (drop_one pairs i p e)) ∙ was

pub numbers_passed : (ranges : List TermRange) (pairs : List Pair) (i : ℕ) (p : Pair) (old whole : List ℕ) → slice_get pairs i ≡ Some p
    → is_in_some ranges p.term ≡ false
    → old ++ numbers_of ranges (drop i pairs) ≡ whole → old ++ numbers_of ranges (drop (i + 1) pairs) ≡ whole
numbers_passed ranges pairs i p old whole e beyond was =
    let rest : List ℕ = numbers_of ranges (drop (i + 1) pairs) in
    ap (λ ns. old ++ ns) (sym (ap (λ (b : Bool). cond b (p.number ∷ rest) rest) beyond))
    ∙ ap (λ ps. old ++ numbers_of ranges ps) (sym (drop_one pairs i p e)) ∙ was
