-- The unions are those of the usable conditions.
use Rattle.std.proofs.Common.{◌≡◌, ℕ, ◌<◌, zero, suc, List, [], ◌∷◌, length, get_or, Bool, true, false, cond, Option, Some, None}
use Rattle.std.proofs.Common.{refl, sym, subst, arith}
use Rattle.std.specs.List.{Contains, cons_option}
use Rattle.ax_term.specs.declared.range.TermRange.{TermRange}
use Rattle.ax_atoms.specs.Atoms.{Atom}
use Rattle.ax_atoms.specs.Spans.{ranges_of}
use Rattle.ax_terms.proofs.Sequences.{contains_first, contains_later, none_in_nil}
use Rattle.ax_container.specs.Container.{Container}
use Rattle.ax_needs.specs.Needs.{is_usable, union_of, unions_of}

-- a usable condition of these has the ranges
abbrev pub OfUsable : Container → List (Option Atom) → List TermRange → Type 0
OfUsable container atoms ranges =
    (atom : Atom) × Contains atoms (Some atom) × (is_usable container atom ≡ true) × (ranges ≡ ranges_of atom)

module _ (container : Container) where
  of_more : (o : Option Atom) (atoms : List (Option Atom)) (ranges : List TermRange) → OfUsable container atoms ranges
      → OfUsable container (o ∷ atoms) ranges
  of_more o atoms ranges of = (of.0, contains_later o atoms (Some of.0) of.1, of.2, of.3)

  by_test : (atom : Atom) (atoms : List (Option Atom)) (ranges : List TermRange)
      → (Contains (unions_of container atoms) ranges → OfUsable container atoms ranges) → (b : Bool) → is_usable container atom ≡ b
      → Contains (cons_option (cond b (Some (ranges_of atom)) None) (unions_of container atoms)) ranges
      → OfUsable container (Some atom ∷ atoms) ranges
  by_test atom atoms ranges more true usable (zero, low, is) = (atom, contains_first (Some atom) atoms, usable, sym is)
  by_test atom atoms ranges more true usable (suc k, low, is) =
      of_more (Some atom) atoms ranges (more (k, omega (arith, low), is))
  by_test atom atoms ranges more false other there = of_more (Some atom) atoms ranges (more there)

  pub of_usable : (atoms : List (Option Atom)) (ranges : List TermRange) → Contains (unions_of container atoms) ranges
      → OfUsable container atoms ranges
  of_usable [] ranges there = absurd (none_in_nil ranges there)
  of_usable (None ∷ atoms) ranges there = of_more None atoms ranges (of_usable atoms ranges there)
  of_usable (Some atom ∷ atoms) ranges there =
      by_test atom atoms ranges (of_usable atoms ranges) (is_usable container atom) refl there

  later_in : (o : Option (List TermRange)) (unions : List (List TermRange)) (ranges : List TermRange)
      → Contains unions ranges → Contains (cons_option o unions) ranges
  later_in None unions ranges there = there
  later_in (Some first) unions ranges there = contains_later first unions ranges there

  union_at : (atoms : List (Option Atom)) (atom : Atom) (k : ℕ) → k < length atoms
      → get_or atoms k (Some atom) ≡ Some atom → is_usable container atom ≡ true
      → Contains (unions_of container atoms) (ranges_of atom)
  union_at [] atom k low is usable = absurd (let e : ⊥ = omega (arith, low) in e)
  union_at (o ∷ atoms) atom zero low is usable =
      subst (λ x. Contains (cons_option (union_of container x) (unions_of container atoms)) (ranges_of atom)) (sym is)
      (subst (λ b. Contains (cons_option (cond b (Some (ranges_of atom)) None) (unions_of container atoms)) (ranges_of atom))
      (sym usable) (contains_first (ranges_of atom) (unions_of container atoms)))
  union_at (o ∷ atoms) atom (suc k) low is usable =
      later_in (union_of container o) (unions_of container atoms) (ranges_of atom)
      (union_at atoms atom k (omega (arith, low)) is usable)

  pub union_there : (atoms : List (Option Atom)) (ranges : List TermRange) → OfUsable container atoms ranges
      → Contains (unions_of container atoms) ranges
  union_there atoms ranges of =
      subst (Contains (unions_of container atoms)) (sym of.3)
      (union_at atoms of.0 of.1.0 of.1.1 of.1.2 of.2)
