-- Pairs of the wanted terms, and what merges make of them.
use Rattle.std.proofs.Common.{◌≡◌, ℕ, ◌+◌, ◌-◌, ◌<◌, ◌≤◌, List, [], ◌∷◌, length, get_or, drop}
use Rattle.std.proofs.Common.{arith, refl, ap, ◌∙◌, sym, subst, Bool, true, false, cond, ⊎_elim}
use Rattle.std.proofs.Common.{Option, Some, None}
use Rattle.std.specs.Option.{option_or, unwrap_or}
use Rattle.ax_pair.specs.declared.pair.Pair.{Pair}
use Rattle.ax_pair.specs.Order.{Rise, RiseAfter}
use Rattle.ax_delta.specs.Changes.{TermChange}
use Rattle.ax_delta.specs.Merge.{IsMerge}
use Rattle.ax_delta.specs.Said.{has, is_same, last_said, said_of}
use Rattle.ax_delta.proofs.OneList.{newest_counts}
use Rattle.ax_delta.proofs.SamePair.{true_or_false, same_from, later, rises_alone}
use Rattle.ax_pages.specs.Contents.{TermPage, term_parts}
use Rattle.ax_pairs.specs.PagePairs.{AreDeltas, AreOfBase, HasPairs}
use Rattle.ax_index.specs.declared.wanted.Wanted.{Wanted}
use Rattle.ax_index.specs.Reading.{first_delta, wanted_of}
use Rattle.ax_index.specs.Wanted.{HaveWanted, is_wanted}
use Rattle.ax_index.proofs.DeltaParts.{says_from, quiet_end}

-- ---- the wanted ones of pairs

wanted_after : (wanted : Wanted) (p : Pair) (pairs : List Pair) → RiseAfter p pairs → RiseAfter p (wanted_of wanted pairs)
wanted_after wanted p [] h = tt
wanted_after wanted p (q ∷ pairs) h =
    ⊎_elim
    (λ (s : is_wanted wanted q.term ≡ true).
    subst (λ (b : Bool). RiseAfter p (cond b (q ∷ wanted_of wanted pairs) (wanted_of wanted pairs))) (sym s)
    (h.0, wanted_after wanted q pairs h.1))
    (λ (s : is_wanted wanted q.term ≡ false).
    subst (λ (b : Bool). RiseAfter p (cond b (q ∷ wanted_of wanted pairs) (wanted_of wanted pairs))) (sym s)
    (wanted_after wanted p pairs (later (Some p) q pairs h.0 h.1)))
    (true_or_false (is_wanted wanted q.term))

pub wanted_rise : (wanted : Wanted) (pairs : List Pair) → Rise pairs → Rise (wanted_of wanted pairs)
wanted_rise wanted [] h = tt
wanted_rise wanted (q ∷ pairs) h =
    ⊎_elim
    (λ (s : is_wanted wanted q.term ≡ true).
    subst (λ (b : Bool). Rise (cond b (q ∷ wanted_of wanted pairs) (wanted_of wanted pairs))) (sym s) (wanted_after wanted q pairs h))
    (λ (s : is_wanted wanted q.term ≡ false).
    subst (λ (b : Bool). Rise (cond b (q ∷ wanted_of wanted pairs) (wanted_of wanted pairs))) (sym s) (wanted_rise wanted pairs (rises_alone q pairs h)))
    (true_or_false (is_wanted wanted q.term))

-- a pair of another term is not sought
not_sought : (wanted : Wanted) (p q : Pair) → is_wanted wanted p.term ≡ true → is_wanted wanted q.term ≡ false → is_same q p ≡ false
not_sought wanted p q h k =
    ⊎_elim
    (λ (s : is_same q p ≡ true).
    let same : is_wanted wanted q.term ≡ true = ap (λ (x : Pair). is_wanted wanted x.term) (same_from q p s) ∙ h in absurd (cc))
    (λ (s : is_same q p ≡ false). s)
    (true_or_false (is_same q p))

pub wanted_has : (wanted : Wanted) (p : Pair) (pairs : List Pair) → is_wanted wanted p.term ≡ true → has p (wanted_of wanted pairs) ≡ has p pairs
wanted_has wanted p [] h = refl
wanted_has wanted p (q ∷ pairs) h =
    ⊎_elim
    (λ (s : is_wanted wanted q.term ≡ true).
    ap (λ (b : Bool). has p (cond b (q ∷ wanted_of wanted pairs) (wanted_of wanted pairs))) s
    ∙ ap (λ (b : Bool). cond (is_same q p) true b) (wanted_has wanted p pairs h))
    (λ (s : is_wanted wanted q.term ≡ false).
    ap (λ (b : Bool). has p (cond b (q ∷ wanted_of wanted pairs) (wanted_of wanted pairs))) s
    ∙ wanted_has wanted p pairs h
    ∙ sym (ap (λ (b : Bool). cond b true (has p pairs)) (not_sought wanted p q h s)))
    (true_or_false (is_wanted wanted q.term))

-- ---- merging

or_else : (last said : Option Bool) (b : Bool) → unwrap_or last (unwrap_or said b) ≡ unwrap_or (option_or last said) b
or_else None said b = refl
or_else (Some x) said b = refl

-- what the deltas from a position on make of the pairs so far is what all make of the base's
pub record IsFolded (wanted : Wanted) (page : TermPage) (i : ℕ) (kept : List Pair) : Type 0 where
  pub gives : (base : List Pair) (deltas : List (List TermChange)) (p : Pair) → AreOfBase page.base base → AreDeltas page.deltas deltas
      → is_wanted wanted p.term ≡ true
      → unwrap_or (last_said p (drop (i - first_delta page) deltas)) (has p kept) ≡ unwrap_or (last_said p deltas) (has p base)

pub folded_start : (wanted : Wanted) (page : TermPage) (i : ℕ) (kept : List Pair) → i ≡ first_delta page
    → ((base : List Pair) → AreOfBase page.base base → kept ≡ wanted_of wanted base) → IsFolded wanted page i kept
folded_start wanted page i kept e is = record {
  gives = λ base deltas p of are h.
      let none : i - first_delta page ≡ 0 = omega arith in
      ap (λ (k : ℕ). unwrap_or (last_said p (drop k deltas)) (has p kept)) none
      ∙ ap (unwrap_or (last_said p deltas)) (ap (has p) (is base of) ∙ wanted_has wanted p base h);
}

pub folded_step : (wanted : Wanted) (page : TermPage) (i j : ℕ) (kept after : List Pair) → first_delta page ≤ i → i < length (term_parts page) → j ≡ i + 1
    → ((deltas : List (List TermChange)) → AreDeltas page.deltas deltas → IsMerge kept (get_or deltas (i - first_delta page) []) after)
    → IsFolded wanted page i kept → IsFolded wanted page j after
folded_step wanted page i j kept after h l e merged was = record {
  gives = λ base deltas p of are w.
      let changes : List TermChange = get_or deltas (i - first_delta page) [] in
      ap (unwrap_or (last_said p (drop (j - first_delta page) deltas))) ((merged deltas are).holds p)
      ∙ or_else (last_said p (drop (j - first_delta page) deltas)) (said_of p changes) (has p kept)
      ∙ ap (λ (o : Option Bool). unwrap_or o (has p kept)) (sym (says_from page deltas are p i j h l e))
      ∙ was.gives base deltas p of are w;
}

pub folded_end : (wanted : Wanted) (page : TermPage) (i : ℕ) (kept pairs : List Pair) → i ≡ length (term_parts page) → Rise kept
    → IsFolded wanted page i kept → HasPairs page pairs → HaveWanted wanted pairs kept
folded_end wanted page i kept pairs e rise is of = record {
  rise = rise;
  same = λ p h.
      ap (λ (o : Option Bool). unwrap_or o (has p kept)) (sym (quiet_end page of.deltas of.are_deltas p i e))
      ∙ is.gives of.base of.deltas p of.of_base of.are_deltas h
      ∙ sym (newest_counts of.base pairs of.deltas p of.merged);
}
