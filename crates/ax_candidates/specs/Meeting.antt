-- Numbers that are met with one union of ranges after another: those of one kind first, then those of the next.
-- Only clauses of private functions cite these. It is this project's own; it comes from no public document.
use Rattle.std.specs.Prelude.{◌≡◌, ◌↔◌, ℕ, List, Contains, true, Option, Some, None}
use Rattle.ax_delta.specs.Said.{has_number}
use Rattle.ax_pages.specs.Contents.{TermPage}
use Rattle.ax_pages.specs.TermPages.{AreApart}
use Rattle.ax_pairs.specs.PairSets.{PairSet}
use Rattle.ax_term.specs.declared.range.TermRange.{TermRange}
use Rattle.ax_index.specs.Grammar.{AreInGrammar, StandsIn}
use Rattle.ax_index.specs.Wanted.{HasInSome}
use Rattle.ax_candidates.specs.Candidates.{AreOfAsked}
use Rattle.ax_candidates.specs.declared.points.Kind.{Kind}
use Rattle.ax_candidates.specs.Points.{kind_of}

-- the number is among those that are left; all are, while no union has been looked up
abbrev pub IsLeft : Option (List ℕ) → ℕ → Type 0
IsLeft None number = Unit {0}
IsLeft (Some numbers) number = has_number number numbers ≡ true

-- left are those of the numbers found so far that have a term in one of the ranges
pub record AreMet (found : Option (List ℕ)) (ranges : List TermRange) (set : PairSet) (left : List ℕ) : Type 0 where
  pub are : (number : ℕ) → (has_number number left ≡ true) ↔ (IsLeft found number × HasInSome ranges set number)

-- these are the numbers that are in both lists
pub record AreShared (left right both : List ℕ) : Type 0 where
  pub are : (number : ℕ) → (has_number number both ≡ true) ↔ ((has_number number left ≡ true) × (has_number number right ≡ true))

-- it holds of each union of the kind
abbrev pub HoldsOfKind : Kind → List (List TermRange) → (List TermRange → Type 0) → Type 0
HoldsOfKind kind unions P = (ranges : List TermRange) → Contains unions ranges → kind_of ranges ≡ kind → P ranges

-- left are those of the numbers found so far that have a term in each union of the kind
pub record AreMetWith (kind : Kind) (unions : List (List TermRange)) (found : Option (List ℕ)) (set : PairSet) (left : Option (List ℕ)) : Type 0 where
  pub are : (number : ℕ) → IsLeft left number ↔ (IsLeft found number × HoldsOfKind kind unions (λ ranges. HasInSome ranges set number))

-- no union is of the kind
pub record IsNoneOfKind (kind : Kind) (unions : List (List TermRange)) : Type 0 where
  pub none : HoldsOfKind kind unions (λ ranges. ⊥)

-- each page with terms of a union of the kind is in its grammar
pub record AreOfKindInGrammar (kind : Kind) (unions : List (List TermRange)) (pages : List TermPage) : Type 0 where
  pub each : HoldsOfKind kind unions (λ ranges. AreInGrammar ranges pages)

-- The index was asked for the union: each page with terms of it is in its grammar, and among those that are left is each of the
-- numbers found so far that the pages have with a term in it.
pub record IsAsked (found : Option (List ℕ)) (ranges : List TermRange) (pages : List TermPage) (left : List ℕ) : Type 0 where
  pub met : AreInGrammar ranges pages
  pub all : AreApart pages → (number : ℕ) → IsLeft found number → StandsIn ranges pages number → has_number number left ≡ true

-- no union has been looked up, or some have
abbrev pub IsBegun : Option (List ℕ) → List (List TermRange) → List TermPage → Type 0
IsBegun None unions pages = Unit {0}
IsBegun (Some numbers) unions pages = AreOfAsked unions pages numbers
