-- The documents at which a query looks: all, or those of the numbers that its plan leaves; which these are, and what of the
-- index was met while they were found.
-- It is this project's own; it comes from no public document.
use Rattle.std.specs.Prelude.{◌≡◌, ◌⊎◌, ◌≤◌, ◌+◌, ◌*◌, ℕ, List, [], length, true}
use Rattle.std.specs.List.Sorted.{IsStrictlyIncreasing}
use Rattle.ax_atoms.specs.Conjuncts.{atoms}
use Rattle.ax_area.specs.Contents.{Contents}
use Rattle.ax_candidates.specs.Candidates.{AreAllInGrammar, AreCandidates, AreOfAsked}
use Rattle.ax_container.specs.Container.{Container}
use Rattle.ax_delta.specs.Said.{has_number}
use Rattle.ax_gap.specs.Gaps.{IsRisingList}
use Rattle.ax_image.specs.Documents.{ContentsHold}
use Rattle.ax_mean.specs.declared.query.Query.{Query}
use Rattle.ax_pages.specs.Contents.{TermPage}
use Rattle.ax_pairs.specs.Index.{IsIndex}
use Rattle.ax_pairs.specs.PairSets.{PairSet}
use Rattle.ax_needs_laws.specs.Just.{AreJustInUse}
use Rattle.ax_plan.specs.Taken.{IsTaken}
use Rattle.ax_plan.specs.Usable.{AreUnions}
use Rattle.ax_policy.specs.Table.{Table}
use Rattle.ax_skips.specs.Candidates.{HasCandidates}
use Rattle.ax_skips.specs.Planned.{AreInUse, IsPlannedOver}
use Rattle.ax_table.specs.TableAgrees.{ArePolicies}
use Rattle.ax_term.specs.declared.range.TermRange.{TermRange}
use Rattle.ax_engine.specs.declared.candidates.Candidates.{Candidates}
use Rattle.ax_engine.specs.declared.candidates.Candidates.TheVariants.{All, Numbers}

-- the number is among them
abbrev pub IsAmong : Candidates → ℕ → Type 0
IsAmong All number = Unit {0}
IsAmong (Numbers numbers) number = has_number number numbers.items ≡ true

-- there is none
abbrev pub AreNone : Candidates → Type 0
AreNone All = ⊥
AreNone (Numbers numbers) = numbers.items ≡ []

-- they rise, where they are numbers
abbrev pub AreRising : Candidates → Type 0
AreRising All = Unit {0}
AreRising (Numbers numbers) = IsStrictlyIncreasing numbers.items

-- ---- how they were found

-- Rising numbers: those with a term in each of the unions, of the set that the pages hold. The index was asked for some of the
-- unions, and for all where there is a number: the pages with terms of these were met in their grammar, and the numbers that they
-- have with a term in each are there.
pub record AreNumbersOf (unions : List (List TermRange)) (pages : List TermPage) (numbers : List ℕ) : Type 0 where
  pub some : 1 ≤ length unions
  pub rising : IsRisingList numbers
  pub are : (set : PairSet) → IsIndex pages set → AreCandidates unions set numbers
  pub asked : AreOfAsked unions pages numbers
  pub met : AreAllInGrammar unions pages ⊎ (numbers ≡ [])

-- all documents, where there is no union
abbrev pub AreOfUnions : List (List TermRange) → List TermPage → Candidates → Type 0
AreOfUnions unions pages All = unions ≡ []
AreOfUnions unions pages (Numbers numbers) = AreNumbersOf unions pages numbers.items

-- by the unions of the query's plan under the policies of the table
pub record AreFound (table : Table) (query : Query) (pages : List TermPage) (candidates : Candidates) : Type 0 where
  pub unions : List (List TermRange)
  pub planned : AreUnions table (atoms query) unions
  pub found : AreOfUnions unions pages candidates

-- ---- what they are to a container

-- the numbers are those of a plan of the query over the documents of the container and the pairs of these
pub record ArePlanned (query : Query) (container : Container) (numbers : List ℕ) : Type 0 where
  pub table : Table
  pub unions : List (List TermRange)
  pub set : PairSet
  pub planned : IsPlannedOver query table unions container set
  pub all : HasCandidates unions set numbers
  pub rising : IsRisingList numbers

-- no document of the container that has rows in the query is left out
abbrev pub HasAllOf : Query → Candidates → Container → Type 0
HasAllOf query All container = Unit {0}
HasAllOf query (Numbers numbers) container = ArePlanned query container numbers.items

-- the table has just the policies that the container has, in use or now: those by which its documents are indexed, and its own
pub record HasJustPolicies (table : Table) (container : Container) : Type 0 where
  pub used : AreInUse table container
  pub just : AreJustInUse table container
  pub now : IsTaken table container.policy
  pub policies : ArePolicies table

-- ---- steps of work

-- at most two for each
abbrev pub CountsTwoEach : Candidates → Contents → ℕ → ℕ → Type 0
CountsTwoEach All contents old new =
    (container : Container) → ContentsHold contents container → new ≤ old + 2 * length container.entries
CountsTwoEach (Numbers numbers) contents old new = new ≤ old + 2 * length numbers.items

-- one for each at the least
abbrev pub CountsOneEach : Candidates → Contents → ℕ → ℕ → Type 0
CountsOneEach All contents old new =
    (container : Container) → ContentsHold contents container → old + length container.entries ≤ new
CountsOneEach (Numbers numbers) contents old new = old + length numbers.items ≤ new
