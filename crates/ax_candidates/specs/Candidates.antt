-- The candidates of a query's plan: the numbers that have a pair of the index's set in each of several unions of
-- ranges; and which pages were found in their grammar for them.
-- It is this project's own; it comes from no public document.
use Rattle.std.specs.Prelude.{◌≡◌, ◌↔◌, ◌<◌, ℕ, List, length, Contains, true}
use Rattle.ax_gap.specs.Gaps.{IsRisingList}
use Rattle.ax_delta.specs.Said.{has_number}
use Rattle.ax_pages.specs.Contents.{TermPage}
use Rattle.ax_pages.specs.TermPages.{AreApart}
use Rattle.ax_pairs.specs.PairSets.{PairSet}
use Rattle.ax_term.specs.declared.range.TermRange.{TermRange}
use Rattle.ax_index.specs.Grammar.{AreInGrammar, StandsIn}
use Rattle.ax_index.specs.Wanted.{HasInSome}

-- the rising numbers with a term in one of the ranges of each union
pub record AreCandidates (unions : List (List TermRange)) (set : PairSet) (numbers : List ℕ) : Type 0 where
  pub rising : IsRisingList numbers
  pub are : (number : ℕ) → (has_number number numbers ≡ true) ↔ ((ranges : List TermRange) → Contains unions ranges → HasInSome ranges set number)

-- each page with terms of one of the unions is in its grammar
pub record AreAllInGrammar (unions : List (List TermRange)) (pages : List TermPage) : Type 0 where
  pub each : (ranges : List TermRange) → Contains unions ranges → AreInGrammar ranges pages

-- The index was asked for some of the unions, one at least: each page with terms of these is in its grammar, and among the
-- numbers is each that the pages have with a term in each of them, where no two pages have one low pair.
pub record AreOfAsked (unions : List (List TermRange)) (pages : List TermPage) (numbers : List ℕ) : Type 0 where
  pub asked : List (List TermRange)
  pub some : 0 < length asked
  pub among : (ranges : List TermRange) → Contains asked ranges → Contains unions ranges
  pub met : AreAllInGrammar asked pages
  pub all : AreApart pages → (number : ℕ) → ((ranges : List TermRange) → Contains asked ranges → StandsIn ranges pages number)
      → has_number number numbers ≡ true
