-- Entries by their numbers: what each change of a container does to the entry of a number.
use Rattle.std.proofs.Common.{◌≡◌, ℕ, ◌<◌, ◌≤◌, List, [], ◌∷◌, ◌++◌, map, Bool, true, false}
use Rattle.std.proofs.Common.{cond, Option, Some, None, find, refl, sym, ap, ◌∙◌, subst, arith, nat_eq}
use Rattle.std.proofs.lemmas.Bool.{eq-eqb, eqb-true, false_from_ne_true}
use Rattle.std.specs.List.{list_any, AllByRecursion, filter}
use Rattle.std.specs.Option.{unwrap_or}
use Rattle.std.specs.Prelude.{not, if◌then◌else◌}
use Rattle.ax_tree.specs.declared.tree.Tree.{Tree}
use Rattle.ax_policy.specs.declared.policy.Policy.{Policy}
use Rattle.ax_container.specs.Container.{Entry, has_id, has_number, entry_at, NumbersRise, IdsAreDistinct}
use Rattle.ax_container.specs.Writes.{with_tree}
use Rattle.ax_container.proofs.Ids.{same_from_eq}
use Rattle.ax_container.proofs.Soundness.{the_entry, or_none, without}

pub same_some : {A : Type 0} (x y : A) → Some x ≡ Some y → x ≡ y
same_some x y e = ap (λ found. unwrap_or found x) e

pub apart : (m n : ℕ) → (m ≡ n → ⊥) → nat_eq m n ≡ false
apart m n h = false_from_ne_true (nat_eq m n) (λ e. h (eqb-true m n e))

pub below_apart : (m n : ℕ) → m < n → nat_eq m n ≡ false
below_apart m n h = apart m n (λ e. omega arith)

pub above_apart : (m n : ℕ) → n < m → nat_eq m n ≡ false
above_apart m n h = apart m n (λ e. omega arith)

-- ---- numbers that no entry has

pub none_up_to : (es : List Entry) (before next n : ℕ) → NumbersRise before es next → n ≤ before → entry_at n es ≡ None
none_up_to [] before next n h less = refl
none_up_to (e ∷ es) before next n h less =
    let above : before < e.number = h.0 in
    ap (λ b. cond b (Some e) (entry_at n es)) (above_apart e.number n (omega arith))
    ∙ none_up_to es e.number next n h.1 (omega arith)

pub rises_to : (before next : ℕ) (entries : List Entry) → NumbersRise before entries next → before < next
rises_to before next [] rise = rise
rises_to before next (e ∷ es) rise = omega (arith, rise.0, rises_to e.number next es rise.1)

pub none_from : (es : List Entry) (before next n : ℕ) → NumbersRise before es next → next ≤ n → entry_at n es ≡ None
none_from [] before next n h more = refl
none_from (e ∷ es) before next n h more =
    let below : e.number < next = rises_to e.number next es h.1 in
    ap (λ b. cond b (Some e) (entry_at n es)) (below_apart e.number n (omega arith))
    ∙ none_from es e.number next n h.1 more

-- ---- one entry more, behind all others

pub numbered_behind : (es : List Entry) (before n : ℕ) (new : Entry) → NumbersRise before es new.number
    → entry_at n (es ++ new ∷ []) ≡ cond (nat_eq new.number n) (Some new) (entry_at n es)
numbered_behind [] before n new h = refl
numbered_behind (e ∷ es) before n new h =
    let below : e.number < new.number = rises_to e.number new.number es h.1 in
    elim (nat_eq e.number n) as
    (λ b. nat_eq e.number n ≡ b
    → cond b (Some e) (entry_at n (es ++ new ∷ [])) ≡ cond (nat_eq new.number n) (Some new) (cond b (Some e) (entry_at n es))) [
      | true ↦ λ same.
          let is : e.number ≡ n = eqb-true e.number n same in
          sym (ap (λ b. cond b (Some new) (Some e)) (above_apart new.number n (omega arith)))
      | false ↦ λ other. numbered_behind es e.number n new h.1
    ] refl

-- ---- the entry of an id, by its number

-- the entries of an id are those of a number
abbrev pub AreById : List ℕ → ℕ → List Entry → Type 0
AreById id number es = AllByRecursion (λ e. has_id id e ≡ has_number number e) es

none_of_id : (id : List ℕ) (es : List Entry) (number next : ℕ) → list_any (has_id id) es ≡ false → NumbersRise number es next
    → AreById id number es
none_of_id id [] number next none h = tt
none_of_id id (e ∷ es) number next none h = (
  (or_none (has_id id e) (list_any (has_id id) es) none).0 ∙ sym (above_apart e.number number h.0),
  none_later id es number e.number next (or_none (has_id id e) (list_any (has_id id) es) none).1 h.0 h.1,
)
  where
    none_later : (id : List ℕ) (es : List Entry) (number before next : ℕ) → list_any (has_id id) es ≡ false
        → number < before → NumbersRise before es next
        → AreById id number es
    none_later id [] number before next none less h = tt
    none_later id (e ∷ es) number before next none less h =
        let above : before < e.number = h.0 in (
          (or_none (has_id id e) (list_any (has_id id) es) none).0 ∙ sym (above_apart e.number number (omega arith)),
          none_later id es number e.number next (or_none (has_id id e) (list_any (has_id id) es) none).1 (omega arith) h.1,
        )

pub found_above : (id : List ℕ) (before next : ℕ) (entries : List Entry) (found : Entry) → NumbersRise before entries next
    → find (has_id id) entries ≡ Some found → before < found.number
found_above id before next [] found rise is = absurd cc
found_above id before next (e ∷ es) found rise is =
    elim (has_id id e) as (λ b. has_id id e ≡ b → (if b then Some e else find (has_id id) es) ≡ Some found → before < found.number) [
      | true ↦ λ own same. subst (λ (x : Entry). before < x.number) (same_some e found same) rise.0
      | false ↦ λ other same. let above = found_above id e.number next es found rise.1 same in omega (arith, rise.0, above)
    ] refl is

pub by_number : (id : List ℕ) (es : List Entry) (before next : ℕ) (found : Entry) → NumbersRise before es next → IdsAreDistinct es
    → find (has_id id) es ≡ Some found → AreById id found.number es
by_number id [] before next found h distinct is = tt
by_number id (e ∷ es) before next found h distinct is =
    elim (has_id id e) as (λ b. has_id id e ≡ b → (if b then Some e else find (has_id id) es) ≡ Some found → AreById id found.number (e ∷ es)) [
      | true ↦ λ own same.
          let none : list_any (has_id id) es ≡ false = ap (λ x. list_any (has_id x) es) (sym (same_from_eq e.id id own)) ∙ distinct.0 in
          subst (λ (x : Entry). AreById id x.number (e ∷ es)) (same_some e found same)
          (own ∙ sym (eq-eqb e.number e.number refl), none_of_id id es e.number next none h.1)
      | false ↦ λ other same.
          let above : e.number < found.number = found_above id e.number next es found h.1 same in
          (other ∙ sym (below_apart e.number found.number above), by_number id es e.number next found h.1 distinct.1 same)
    ] refl is

-- the entry of the id is that of its number
pub found_by_number : (id : List ℕ) (es : List Entry) (number : ℕ) → AreById id number es → find (has_id id) es ≡ entry_at number es
found_by_number id [] number same = refl
found_by_number id (e ∷ es) number same = λ i. cond (same.0 i) (Some e) (found_by_number id es number same.1 i)

-- the entry with another tree and policy, where it has the number
abbrev pub given : ℕ → Tree → Policy → Entry → Entry
given number tree policy e = cond (has_number number e) (the_entry e.number e.id tree policy) e

pub replaced_by_number : (id : List ℕ) (tree : Tree) (policy : Policy) (number : ℕ) (es : List Entry) → AreById id number es
    → map (with_tree id tree policy) es ≡ map (given number tree policy) es
replaced_by_number id tree policy number [] same = refl
replaced_by_number id tree policy number (e ∷ es) same =
    λ i. cond (same.0 i) (the_entry e.number e.id tree policy) e ∷ replaced_by_number id tree policy number es same.1 i

abbrev pub other_than : ℕ → Entry → Bool
other_than number e = not (has_number number e)

pub deleted_by_number : (id : List ℕ) (number : ℕ) (es : List Entry) → AreById id number es
    → without id es ≡ filter (other_than number) es
deleted_by_number id number [] same = refl
deleted_by_number id number (e ∷ es) same =
    λ i. cond (not (same.0 i)) (e ∷ deleted_by_number id number es same.1 i) (deleted_by_number id number es same.1 i)

-- ---- the entry of a number after a change of it

-- at another number nothing changes
pub given_other : (number : ℕ) (tree : Tree) (policy : Policy) (n : ℕ) (es : List Entry) → (n ≡ number → ⊥)
    → entry_at n (map (given number tree policy) es) ≡ entry_at n es
given_other number tree policy n [] other = refl
given_other number tree policy n (e ∷ es) other =
    elim (nat_eq e.number number) as
    (λ b. nat_eq e.number number ≡ b
    → cond (nat_eq (cond b (the_entry e.number e.id tree policy) e).number n) (Some (cond b (the_entry e.number e.id tree policy) e))
    (entry_at n (map (given number tree policy) es)) ≡ entry_at n (e ∷ es)) [
      | true ↦ λ same.
          let is : e.number ≡ number = eqb-true e.number number same in
          let differs : nat_eq e.number n ≡ false = apart e.number n (λ x. other (sym x ∙ is)) in
          ap (λ c. cond c (Some (the_entry e.number e.id tree policy)) (entry_at n (map (given number tree policy) es))) differs
          ∙ given_other number tree policy n es other
          ∙ sym (ap (λ c. cond c (Some e) (entry_at n es)) differs)
      | false ↦ λ _. ap (λ x. cond (nat_eq e.number n) (Some e) x) (given_other number tree policy n es other)
    ] refl

pub given_here : (number : ℕ) (tree : Tree) (policy : Policy) (es : List Entry) (found : Entry) → entry_at number es ≡ Some found
    → entry_at number (map (given number tree policy) es) ≡ Some (the_entry found.number found.id tree policy)
given_here number tree policy [] found is = absurd cc
given_here number tree policy (e ∷ es) found is =
    elim (nat_eq e.number number) as
    (λ b. nat_eq e.number number ≡ b → cond b (Some e) (entry_at number es) ≡ Some found
    → cond (nat_eq (cond b (the_entry e.number e.id tree policy) e).number number) (Some (cond b (the_entry e.number e.id tree policy) e))
    (entry_at number (map (given number tree policy) es)) ≡ Some (the_entry found.number found.id tree policy)) [
      | true ↦ λ same at.
          ap (λ c. cond c (Some (the_entry e.number e.id tree policy)) (entry_at number (map (given number tree policy) es))) same
          ∙ ap (λ (x : Entry). Some (the_entry x.number x.id tree policy)) (same_some e found at)
      | false ↦ λ other at.
          ap (λ c. cond c (Some e) (entry_at number (map (given number tree policy) es))) other
          ∙ given_here number tree policy es found at
    ] refl is

abbrev no_entry : Option Entry
no_entry = None

pub without_number : (number n : ℕ) (es : List Entry)
    → entry_at n (filter (other_than number) es) ≡ cond (nat_eq number n) None (entry_at n es)
without_number number n [] = elim (nat_eq number n) as (λ b. no_entry ≡ cond b no_entry no_entry) [ true ↦ refl | false ↦ refl ]
without_number number n (e ∷ es) =
    let rest : entry_at n (filter (other_than number) es) ≡ cond (nat_eq number n) None (entry_at n es) = without_number number n es in
    elim (nat_eq e.number number) as
    (λ b. nat_eq e.number number ≡ b
    → entry_at n (cond (not b) (e ∷ filter (other_than number) es) (filter (other_than number) es))
    ≡ cond (nat_eq number n) None (entry_at n (e ∷ es))) [
      | true ↦ λ same.
          rest ∙ elim (nat_eq number n) as
          (λ c. nat_eq number n ≡ c → cond c None (entry_at n es) ≡ cond c None (entry_at n (e ∷ es))) [
            | true ↦ λ _. refl
            | false ↦ λ differs.
                sym (ap (λ c. cond c (Some e) (entry_at n es)) (ap (λ m. nat_eq m n) (eqb-true e.number number same) ∙ differs))
          ] refl
      | false ↦ λ other.
          ap (λ x. cond (nat_eq e.number n) (Some e) x) rest
          ∙ elim (nat_eq number n) as
          (λ c. nat_eq number n ≡ c
          → cond (nat_eq e.number n) (Some e) (cond c None (entry_at n es)) ≡ cond c None (entry_at n (e ∷ es))) [
            | true ↦ λ same.
                ap (λ c. cond c (Some e) None) (ap (nat_eq e.number) (sym (eqb-true number n same)) ∙ other)
            | false ↦ λ _. refl
          ] refl
    ] refl

-- the entry of a number has it
pub number_is : (n : ℕ) (es : List Entry) (found : Entry) → entry_at n es ≡ Some found → found.number ≡ n
number_is n [] found is = absurd cc
number_is n (e ∷ es) found is =
    elim (nat_eq e.number n) as (λ b. nat_eq e.number n ≡ b → cond b (Some e) (entry_at n es) ≡ Some found → found.number ≡ n) [
      | true ↦ λ same at. ap (λ (x : Entry). x.number) (sym (same_some e found at)) ∙ eqb-true e.number n same
      | false ↦ λ other at. number_is n es found at
    ] refl is
