-- Which pairs a call asks for: those of all terms, or of the terms in some ranges; and the numbers with a term in a
-- range, or in one of several. It is this project's own; it comes from no public document.
use Rattle.std.specs.Prelude.{◌≡◌, ◌↔◌, ℕ, Bool, true, false, if◌then◌else◌, List, [], ◌∷◌, Contains}
use Rattle.ax_gap.specs.Gaps.{IsRisingList}
use Rattle.ax_pair.specs.declared.pair.Pair.{Pair}
use Rattle.ax_pair.specs.Order.{Rise}
use Rattle.ax_delta.specs.Said.{has, has_number}
use Rattle.ax_pairs.specs.PairSets.{PairSet}
use Rattle.ax_term.specs.Ranges.{is_in_range}
use Rattle.ax_term.specs.declared.range.TermRange.{TermRange}
use Rattle.ax_index.specs.declared.wanted.Wanted.{Wanted}
use Rattle.ax_index.specs.declared.wanted.Wanted.TheVariants.{All, In}

-- the term is in one of the ranges
abbrev pub is_in_some : List TermRange → List ℕ → Bool
is_in_some [] term = false
is_in_some (range ∷ ranges) term = if is_in_range range term then true else is_in_some ranges term

abbrev pub is_wanted : Wanted → List ℕ → Bool
is_wanted All term = true
is_wanted (In ranges) term = is_in_some ranges.now term

-- Rising pairs, which of the wanted terms are those of a list. Others may be among them.
pub record HaveWanted (wanted : Wanted) (pairs kept : List Pair) : Type 0 where
  pub rise : Rise kept
  pub same : (p : Pair) → is_wanted wanted p.term ≡ true → has p kept ≡ has p pairs

-- the set has a pair of this number whose term is in the range
abbrev pub HasIn : TermRange → PairSet → ℕ → Type 0
HasIn range set number = (term : List ℕ) × (is_in_range range term ≡ true) × (set (record { term = term; number = number }) ≡ true)

-- the rising numbers with a term in the range
pub record AreNumbersIn (range : TermRange) (set : PairSet) (numbers : List ℕ) : Type 0 where
  pub rising : IsRisingList numbers
  pub are : (number : ℕ) → (has_number number numbers ≡ true) ↔ HasIn range set number

-- the set has a pair of this number whose term is in one of the ranges
abbrev pub HasInSome : List TermRange → PairSet → ℕ → Type 0
HasInSome ranges set number = (range : TermRange) × Contains ranges range × HasIn range set number

-- the rising numbers with a term in one of the ranges
pub record AreNumbersInSome (ranges : List TermRange) (set : PairSet) (numbers : List ℕ) : Type 0 where
  pub rising : IsRisingList numbers
  pub are : (number : ℕ) → (has_number number numbers ≡ true) ↔ HasInSome ranges set number
