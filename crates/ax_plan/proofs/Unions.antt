-- What is sought for the conjuncts that are covered is what is sought for the usable conditions, and for no others.
use Rattle.std.proofs.Common.{◌≡◌, ℕ, zero, suc, ◌<◌, List, [], ◌∷◌, ◌++◌, map, length, get_or, Bool, true, false, Option, Some, None}
use Rattle.std.proofs.Common.{Result, Ok, Err, ◌⊎◌, inl, inr, ⊎_elim, option_map, refl, sym, subst, arith}
use Rattle.std.proofs.lemmas.List.Elements.{All-head, All-cons, All-nil}
use Rattle.std.proofs.lemmas.Option.{same_Some, none-some}
use Rattle.std.specs.List.{AllByRecursion, Contains}
use Rattle.std.specs.Option.{option_to_list}
use Rattle.std.specs.Prelude.{IfOk}
use Rattle.ax_mean.specs.declared.query.Step.{Step}
use Rattle.ax_term.specs.declared.range.TermRange.{TermRange}
use Rattle.ax_policy.specs.Covering.{Covers}
use Rattle.ax_policy.specs.Table.{Table}
use Rattle.ax_policy.specs.declared.policy.Policy.{Policy}
use Rattle.ax_atoms.specs.Atoms.{Atom, rests_at, rests_on_all}
use Rattle.ax_atoms.specs.Conjuncts.{conjunct_of}
use Rattle.ax_atoms.specs.Passing.{IsAtOrBelow}
use Rattle.ax_atoms.specs.Spans.{ranges_of}
use Rattle.ax_atoms.specs.declared.conjunct.Conjunct.{Conjunct}
use Rattle.ax_terms.proofs.Sequences.{contains_first, contains_later, none_in_nil}
use Rattle.ax_plan.specs.Taken.{HoldsOfTaken}
use Rattle.ax_plan.specs.ByPaths.{AreCovered, AreOfConjuncts, CoversPath, covered, empty, sought_in, uncovered, without_ranges}
use Rattle.ax_plan.specs.Combining.{combined_unions, sought_by}
use Rattle.ax_plan.specs.Usable.{AreSought, AreUnions, IsUsable, nothing, unanswered, unusable, usable}
use Rattle.ax_plan.specs.declared.sought.Sought.{Sought}

-- ---- paths that are covered, and the leaves on which a condition rests

on_leaves : (whole : Bool) (path leaf : List Step) (policy : Policy) → CoversPath whole path policy
    → IsAtOrBelow whole path leaf → Covers policy leaf
on_leaves false path leaf policy covers at = subst (Covers policy) (sym at) covers
on_leaves true path leaf policy covers at = subst (Covers policy) (sym at.1) (covers at.0)

of_leaves : (whole : Bool) (path : List Step) (policy : Policy)
    → ((leaf : List Step) → IsAtOrBelow whole path leaf → Covers policy leaf) → CoversPath whole path policy
of_leaves false path policy covers = covers path refl
of_leaves true path policy covers = λ more. covers (path ++ more) (more, refl)

-- each policy that is in use or now covers the path so
abbrev TakenCover : Table → Bool → List Step → Type 0
TakenCover table whole path = HoldsOfTaken table (CoversPath whole path)

usable_from : (table : Table) (atom : Atom) → AreCovered table (rests_on_all atom) (rests_at atom ∷ []) → IsUsable table atom
usable_from table atom each policy used leaf at =
    on_leaves (rests_on_all atom) (rests_at atom) leaf policy
    (All-head (TakenCover table (rests_on_all atom)) (rests_at atom) [] each policy used) at

covered_from : (table : Table) (atom : Atom) → IsUsable table atom → AreCovered table (rests_on_all atom) (rests_at atom ∷ [])
covered_from table atom each =
    All-cons (TakenCover table (rests_on_all atom)) (rests_at atom) []
    (λ policy used. of_leaves (rests_on_all atom) (rests_at atom) policy (each policy used))
    (All-nil (TakenCover table (rests_on_all atom)))

-- ---- what is sought for conjuncts

-- one conjunct more, by the ranges that it has where it is covered
pub one_more : (table : Table) (conjunct : Conjunct) (found : Option (List TermRange)) (conjuncts : List Conjunct)
    (sought : List Sought) → conjunct.ranges ≡ found → AreCovered table conjunct.whole conjunct.paths
    → AreOfConjuncts table conjuncts sought
    → AreOfConjuncts table (conjunct ∷ conjuncts) (option_to_list (option_map (sought_in conjunct) found) ++ sought)
one_more table conjunct None conjuncts sought is each more = without_ranges conjunct conjuncts sought is more
one_more table conjunct (Some ranges) conjuncts sought is each more =
    covered conjunct ranges conjuncts sought is each more

pub nothing_left : {X : Type 0} (xs : List X) → length xs ≡ 0 → xs ≡ []
nothing_left [] none = refl
nothing_left (x ∷ xs) none = absurd (let e : ⊥ = cc in e)

pub are_sought : (table : Table) (atoms : List (Option Atom)) (sought : List Sought)
    → AreOfConjuncts table (map conjunct_of atoms) sought → AreSought table atoms sought
are_sought table [] _ empty = nothing
are_sought table (None ∷ atoms) _ (without_ranges conjunct conjuncts sought is more) =
    unanswered atoms sought (are_sought table atoms sought more)
are_sought table (None ∷ atoms) _ (uncovered conjunct conjuncts sought not more) =
    unanswered atoms sought (are_sought table atoms sought more)
are_sought table (None ∷ atoms) _ (covered conjunct ranges conjuncts sought is each more) = absurd (none-some ranges is)
are_sought table (Some atom ∷ atoms) _ (without_ranges conjunct conjuncts sought is more) =
    absurd (none-some (ranges_of atom) (sym is))
are_sought table (Some atom ∷ atoms) _ (uncovered conjunct conjuncts sought not more) =
    unusable atom atoms sought (λ all. not (covered_from table atom all)) (are_sought table atoms sought more)
are_sought table (Some atom ∷ atoms) _ (covered conjunct ranges conjuncts sought is each more) =
    subst (λ (own : List TermRange). AreSought table (Some atom ∷ atoms) (sought_in (conjunct_of (Some atom)) own ∷ sought))
    (same_Some (ranges_of atom) ranges is)
    (usable atom atoms sought (usable_from table atom each) (are_sought table atoms sought more))

pub unions_made : {E : Type 0} (table : Table) (atoms : List (Option Atom)) (found : List Conjunct) (sought : List Sought)
    (result : Result (List (List TermRange)) E) → found ≡ map conjunct_of atoms → AreOfConjuncts table found sought
    → IfOk result (λ unions. unions ≡ combined_unions sought) → IfOk result (AreUnions table atoms)
unions_made table atoms found sought (Ok unions) same are combined =
    record {
      sought = sought;
      of_usable = are_sought table atoms sought (subst (λ (conjuncts : List Conjunct). AreOfConjuncts table conjuncts sought) same are);
      combined = combined;
    }
unions_made table atoms found sought (Err fault) same are combined = combined

-- ---- what is sought for each usable condition

pub first_or_later : {X : Type 0} (x y : X) (xs : List X) → Contains (x ∷ xs) y → (x ≡ y) ⊎ Contains xs y
first_or_later x y xs there = by_place x y xs there.0 there.1 there.2
  where
    by_place : {X : Type 0} (x y : X) (xs : List X) (k : ℕ) → k < length (x ∷ xs) → get_or (x ∷ xs) k y ≡ y
        → (x ≡ y) ⊎ Contains xs y
    by_place x y xs zero h e = inl e
    by_place x y xs (suc k) h e = inr (k, omega arith, e)

-- what holds of what is sought for each usable condition holds of all that is sought
pub each_sought : (P : Sought → Type 0) (table : Table) (atoms : List (Option Atom)) (sought : List Sought)
    → AreSought table atoms sought
    → ((atom : Atom) → Contains atoms (Some atom) → IsUsable table atom → P (sought_by atom)) → AllByRecursion P sought
each_sought P table [] _ nothing each = tt
each_sought P table (None ∷ atoms) _ (unanswered others sought more) each =
    each_sought P table atoms sought more (λ atom there. each atom (contains_later None atoms (Some atom) there))
each_sought P table (Some own ∷ atoms) _ (unusable it others sought not more) each =
    each_sought P table atoms sought more (λ atom there. each atom (contains_later (Some own) atoms (Some atom) there))
each_sought P table (Some own ∷ atoms) _ (usable it others sought all more) each = (
  each own (contains_first (Some own) atoms) all,
  each_sought P table atoms sought more (λ atom there. each atom (contains_later (Some own) atoms (Some atom) there)),
)

-- what is sought for a usable condition is among what is sought
pub is_sought : (table : Table) (atoms : List (Option Atom)) (sought : List Sought) → AreSought table atoms sought
    → (atom : Atom) → Contains atoms (Some atom) → IsUsable table atom → Contains sought (sought_by atom)
is_sought table [] _ nothing atom there all = absurd (none_in_nil (Some atom) there)
is_sought table (None ∷ atoms) _ (unanswered others sought more) atom there all =
    ⊎_elim {C = Contains sought (sought_by atom)}
    (λ (is : None ≡ Some atom). absurd (none-some atom is))
    (λ (k : Contains atoms (Some atom)). is_sought table atoms sought more atom k all)
    (first_or_later None (Some atom) atoms there)
is_sought table (Some own ∷ atoms) _ (unusable it others sought not more) atom there all =
    ⊎_elim {C = Contains sought (sought_by atom)}
    (λ (is : Some own ≡ Some atom). absurd (not (subst (IsUsable table) (sym (same_Some own atom is)) all)))
    (λ (k : Contains atoms (Some atom)). is_sought table atoms sought more atom k all)
    (first_or_later (Some own) (Some atom) atoms there)
is_sought table (Some own ∷ atoms) _ (usable it others sought each more) atom there all =
    ⊎_elim {C = Contains (sought_by own ∷ sought) (sought_by atom)}
    (λ (is : Some own ≡ Some atom). subst (λ (a : Atom). Contains (sought_by own ∷ sought) (sought_by a))
    (same_Some own atom is) (contains_first (sought_by own) sought))
    (λ (k : Contains atoms (Some atom)). contains_later (sought_by own) sought (sought_by atom)
    (is_sought table atoms sought more atom k all))
    (first_or_later (Some own) (Some atom) atoms there)
