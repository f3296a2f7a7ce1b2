-- The one term of an id's range, and what the numbers in that range tell of the id.
use Rattle.std.proofs.Common.{◌≡◌, ℕ, zero, suc, ◌<◌, List, [], ◌∷◌, ◌++◌, arith, refl, sym, ap, ◌∙◌, subst}
use Rattle.std.proofs.Common.{Bool, true, false, ◌&&◌, Option, slice_get}
use Rattle.std.proofs.lemmas.Bool.{eq-eqb, false_from_ne_true}
use Rattle.std.proofs.lemmas.Cmp.{nat_list_cmp_total, tied_itself}
use Rattle.std.specs.Cmp.{nat_cmp_total}
use Rattle.std.specs.Cmp.Lexicographic.{slice_cmp}
use Rattle.std.specs.FinMap.{nat_cmp-IsAntisymmetric}
use Rattle.std.specs.Ordering.{nat_cmp, is_le, is_lt, ordering_then, ordering_reverse}
use Rattle.std.specs.declared.cmp.Ordering.{Ordering}
use Rattle.std.specs.declared.cmp.Ordering.TheVariants.{Less, Equal, Greater}
use Rattle.ax_delta.specs.Said.{has_number}
use Rattle.ax_delta.proofs.Numbers.{below_all}
use Rattle.ax_delta.proofs.SamePair.{the_pair}
use Rattle.ax_gap.proofs.Rising.{RisesFrom, rises}
use Rattle.ax_pairs.specs.PairSets.{PairSet}
use Rattle.ax_term.proofs.Decided.{greater}
use Rattle.ax_term.specs.Ranges.{is_in_range}
use Rattle.ax_term.specs.Terms.{Term}
use Rattle.ax_term.specs.TermBytes.{term_bytes}
use Rattle.ax_term.specs.declared.range.TermRange.{TermRange}
use Rattle.ax_index.specs.ById.{IsNumberOf, id_pair, id_range}
use Rattle.ax_index.specs.Wanted.{AreNumbersIn, HasIn}

-- ---- terms

-- what is before the single byte 0 is empty
before_zero : (x : ℕ) (xs : List ℕ) → is_lt (slice_cmp nat_cmp (x ∷ xs) (0 ∷ [])) ≡ true → ⊥
before_zero zero [] h = let no : false ≡ true = h in cc
before_zero zero (y ∷ ys) h = let no : false ≡ true = h in cc
before_zero (suc x) xs h =
    let no : false ≡ true =
    sym (ap (λ (o : Ordering). is_lt (ordering_then o (slice_cmp nat_cmp xs []))) (greater (suc x) 0 (omega arith))) ∙ h
    in cc

-- a term that is not before another, and before that one with a byte 0 behind it, is that one
between : (t u : List ℕ) → is_le (slice_cmp nat_cmp t u) ≡ true → is_lt (slice_cmp nat_cmp u (t ++ 0 ∷ [])) ≡ true → t ≡ u
between [] [] h k = refl
between [] (y ∷ us) h k = absurd (before_zero y us k)
between (x ∷ ts) [] h k = let no : false ≡ true = h in absurd (cc)
between (x ∷ ts) (y ∷ us) h k = by_order (between ts us) (nat_cmp x y) refl
  where
    turned : (o : Ordering) → nat_cmp x y ≡ o → nat_cmp y x ≡ ordering_reverse o
    turned o e = nat_cmp_total.antisymm y x ∙ ap ordering_reverse e

    not_before : (o : Ordering) → nat_cmp x y ≡ o → is_le (ordering_then o (slice_cmp nat_cmp ts us)) ≡ true
    not_before o e = sym (ap (λ (p : Ordering). is_le (ordering_then p (slice_cmp nat_cmp ts us))) e) ∙ h

    before_end : (o : Ordering) → nat_cmp x y ≡ o → is_lt (ordering_then (ordering_reverse o) (slice_cmp nat_cmp us (ts ++ 0 ∷ []))) ≡ true
    before_end o e = sym (ap (λ (p : Ordering). is_lt (ordering_then p (slice_cmp nat_cmp us (ts ++ 0 ∷ [])))) (turned o e)) ∙ k

    by_order : (is_le (slice_cmp nat_cmp ts us) ≡ true → is_lt (slice_cmp nat_cmp us (ts ++ 0 ∷ [])) ≡ true → ts ≡ us) → (o : Ordering)
        → nat_cmp x y ≡ o → (x ∷ ts) ≡ (y ∷ us)
    by_order rest Less e = let no : false ≡ true = before_end Less e in absurd (cc)
    by_order rest Equal e =
        let first : x ≡ y = nat_cmp-IsAntisymmetric x y e in
        let same : ts ≡ us = rest (not_before Equal e) (before_end Equal e) in
        λ i. first i ∷ same i
    by_order rest Greater e = let no : false ≡ true = not_before Greater e in absurd (cc)

-- a term is before itself with a byte behind it
behind_it : (t : List ℕ) → slice_cmp nat_cmp t (t ++ 0 ∷ []) ≡ Less
behind_it [] = refl
behind_it (x ∷ ts) = ap (λ (o : Ordering). ordering_then o (slice_cmp nat_cmp ts (ts ++ 0 ∷ []))) (tied_itself nat_cmp_total x) ∙ behind_it ts

both_true : (a b : Bool) → (a && b) ≡ true → (a ≡ true) × (b ≡ true)
both_true true b h = (refl, h)
both_true false b h = absurd (cc)

-- an id's range has just the id's term
pub only_term : (id term : List ℕ) → is_in_range (id_range id) term ≡ true → term_bytes (Term.Id id) ≡ term
only_term id term h =
    let own : List ℕ = term_bytes (Term.Id id) in
    let (from, below) = both_true (is_le (slice_cmp nat_cmp own term)) (is_lt (slice_cmp nat_cmp term (own ++ 0 ∷ []))) h in
    between own term from below

pub own_term : (id : List ℕ) → is_in_range (id_range id) (term_bytes (Term.Id id)) ≡ true
own_term id =
    let own : List ℕ = term_bytes (Term.Id id) in
    ap (λ (o : Ordering). is_le o && is_lt (slice_cmp nat_cmp own (own ++ 0 ∷ []))) (tied_itself nat_list_cmp_total own)
    ∙ ap is_lt (behind_it own)

-- ---- numbers

module _ (id : List ℕ) (set : PairSet) where
  of_id : (number : ℕ) → HasIn (id_range id) set number → set (id_pair id number) ≡ true
  of_id number (term, within, member) = ap (λ (t : List ℕ). set (the_pair t number)) (only_term id term within) ∙ member

  -- what is not among the numbers is not in the set
  not_there : (numbers : List ℕ) (number : ℕ) → AreNumbersIn (id_range id) set numbers → has_number number numbers ≡ false
      → set (id_pair id number) ≡ false
  not_there numbers number found none =
      false_from_ne_true (set (id_pair id number))
      (λ is. let there : has_number number numbers ≡ true = (found.are number).1 (term_bytes (Term.Id id), own_term id, is) in cc)

  pub first_number : (numbers : List ℕ) → AreNumbersIn (id_range id) set numbers → IsNumberOf id set (slice_get numbers 0)
  first_number [] found = λ number. not_there [] number found refl
  first_number (n ∷ numbers) found = (of_id n ((found.are n).0 here), λ other less. not_there (n ∷ numbers) other found (lesser other less))
    where
      here : has_number n (n ∷ numbers) ≡ true
      here = rw (eq-eqb n n refl) refl

      lesser : (other : ℕ) → other < n → has_number other (n ∷ numbers) ≡ false
      lesser other less =
          let up : RisesFrom 0 (n ∷ numbers) = rises (n ∷ numbers) found.rising in
          below_all other n (n ∷ numbers) (omega arith, up.1, up.2) less

-- what the first of the numbers in the range tells
pub number_by : (id : List ℕ) (set : PairSet) (range : TermRange) (numbers list : List ℕ) (first : Option ℕ) → range ≡ id_range id → list ≡ numbers
    → first ≡ slice_get list 0 → AreNumbersIn range set numbers → IsNumberOf id set first
number_by id set range numbers list first alone same is found =
    subst (IsNumberOf id set) (sym (is ∙ ap (λ (l : List ℕ). slice_get l 0) same))
    (first_number id set numbers (subst (λ (r : TermRange). AreNumbersIn r set numbers) alone found))
