-- Which numbers are candidates of a query's plan, by the pairs that an index holds: those with a term in each of its unions.
-- It is this project's own; it comes from no public document.
use Rattle.std.specs.Prelude.{◌≡◌, ℕ, List, true}
use Rattle.std.specs.List.{Contains}
use Rattle.ax_delta.specs.Said.{has_number}
use Rattle.ax_pairs.specs.PairSets.{PairSet}
use Rattle.ax_term.specs.declared.range.TermRange.{TermRange}
use Rattle.ax_index.specs.Wanted.{HasInSome}

-- the set has the number with a term in each of the unions
abbrev pub IsCandidate : List (List TermRange) → PairSet → ℕ → Type 0
IsCandidate unions set number =
    (ranges : List TermRange) → Contains unions ranges → HasInSome ranges set number

-- All candidates are among the numbers; others may be. Where a plan has no union every number is a candidate, and no list
-- has all: then all documents are to be looked at.
abbrev pub HasCandidates : List (List TermRange) → PairSet → List ℕ → Type 0
HasCandidates unions set numbers = (number : ℕ) → IsCandidate unions set number → has_number number numbers ≡ true
