-- What merging pages makes: the same set, in fewer pages with deltas.
-- It is this project's own; it comes from no public document.
use Rattle.std.specs.Prelude.{◌≡◌, ℕ, ◌+◌, ◌<◌, ◌≤◌, Bool, true, not, ◌&&◌, if◌then◌else◌, List, [], ◌++◌, length, Option, Some, None, IsTrue}
use Rattle.std.specs.declared.cmp.Ordering.TheVariants.{Less}
use Rattle.ax_frame.specs.Part.{PartValue}
use Rattle.ax_pair.specs.declared.pair.Pair.{Pair}
use Rattle.ax_pair.specs.Order.{pair_cmp}
use Rattle.ax_pages.specs.Contents.{TermPage, term_page}
use Rattle.ax_pages.specs.TermPages.{IsLastPage, IsNextPage, IsPageOf, low_pair}
use Rattle.ax_pairs.specs.Index.{IsIndex}
use Rattle.ax_pairs.specs.PagePairs.{HasPairs}
use Rattle.ax_pairs.specs.PairSets.{PairSet}
use Rattle.ax_pairs.specs.TermParts.{LeadTo}
use Rattle.ax_store.specs.Kept.{deltas_of}
use Rattle.ax_index.specs.Bare.{has_deltas, with_deltas}
use Rattle.ax_index.specs.Grammar.{IsInGrammar}
use Rattle.ax_index.specs.Carried.{HasLowPair, HasSome, bases_put}
use Rattle.ax_index.specs.PageSizes.{AreStuck}
use Rattle.ax_index.specs.Planning.{IsUpTo}

-- Of an index on an honest disk, a page that still has deltas needs more new pages than may be, of which the last would
-- have a number that no page may have, or has a term of more than 4,096 bytes.
abbrev pub IsStuck : Bool → ℕ → List TermPage → List TermPage → Type 0
IsStuck honest number before after =
    IsTrue honest → (set : PairSet) → IsIndex before set → has_deltas (term_page number after) ≡ true → (pairs : List Pair)
    → HasPairs (term_page number before) pairs → AreStuck (length after) (low_pair number before) pairs

-- how many bases are put of a page that was there, by whether it had deltas and whether it has some then
abbrev pub bases_due : Bool → Bool → ℕ
bases_due had has = if had && not has then 1 else 0

-- Behind the parts that a batch had, parts were put that change no pair. So many pages fewer have deltas: as
-- many as were asked for, or else no page has deltas but those that are stuck. Each page that had deltas and has
-- none then got one base, each other page that was there got none, and a new page has one base and a pair; of a page
-- that there is not then there is no part. One that is merged is left without pairs only where it has none; and over an honest
-- disk each of its parts was in its grammar.
pub record IsMergePlan (honest : Bool) (asked merged : ℕ) (old new : List PartValue) (before : List TermPage) : Type 0 where
  pub parts : List PartValue
  pub added : new ≡ old ++ parts
  pub after : List TermPage
  pub lead : LeadTo parts before after
  pub holds : IsTrue honest → (set : PairSet) → IsIndex before set → IsIndex after set
  pub no_deltas : (number : ℕ) → deltas_of number parts ≡ 0
  pub fewer : with_deltas after + merged ≡ with_deltas before
  pub at_most : merged ≤ asked
  pub finished : merged < asked → (number : ℕ) → number < length before → IsStuck honest number before after
  pub each : (number : ℕ) → number < length before
      → length (bases_put number parts) ≡ bases_due (has_deltas (term_page number before)) (has_deltas (term_page number after))
  pub new_once : (number : ℕ) → length before ≤ number → number < length after → length (bases_put number parts) ≡ 1
  pub none_beyond : (number : ℕ) → length after ≤ number → bases_put number parts ≡ []
  pub new_with : (number : ℕ) → length before ≤ number → number < length after → HasLowPair (term_page number after)
  pub filled : IsTrue honest → (set : PairSet) → IsIndex before set → (number : ℕ) → number < length before
      → 0 < length (bases_put number parts) → (p : Pair) → IsPageOf p number before → set p ≡ true → HasSome (term_page number after)
  pub met : IsTrue honest → (number : ℕ) → number < length before → 0 < length (bases_put number parts) → IsInGrammar (term_page number before)

-- the page comes before the one that is next, in the order of low pairs
abbrev pub IsPassed : Option ℕ → ℕ → List TermPage → Type 0
IsPassed None number pages = Unit {0}
IsPassed (Some next) number pages = pair_cmp (low_pair number pages) (low_pair next pages) ≡ Less

-- what is known of the page that is next
abbrev pub IsReady : Option ℕ → List TermPage → List TermPage → List PartValue → Type 0
IsReady None before now parts = Unit {0}
IsReady (Some next) before now parts = (next < length before) × IsUpTo (low_pair next before) before now parts

-- the page behind another in the order, where there is one
abbrev pub IsBehind : ℕ → Option ℕ → List TermPage → Type 0
IsBehind page None pages = IsLastPage page pages
IsBehind page (Some next) pages = IsNextPage page next pages

-- The pages before the next one are done. Only clauses of private functions cite it.
pub record IsMergedTo (honest : Bool) (at : Option ℕ) (before : List TermPage) (merged next : ℕ) (old new : List PartValue) : Type 0 where
  pub parts : List PartValue
  pub added : new ≡ old ++ parts
  pub now : List TermPage
  pub lead : LeadTo parts before now
  pub longer : length before ≤ length now
  pub holds : IsTrue honest → (set : PairSet) → IsIndex before set → IsIndex now set
  pub no_deltas : (number : ℕ) → deltas_of number parts ≡ 0
  pub fewer : with_deltas now + merged ≡ with_deltas before
  pub next_is : next ≡ length now
  pub each : (number : ℕ) → number < length before
      → length (bases_put number parts) ≡ bases_due (has_deltas (term_page number before)) (has_deltas (term_page number now))
  pub new_once : (number : ℕ) → length before ≤ number → number < length now → length (bases_put number parts) ≡ 1
  pub none_beyond : (number : ℕ) → length now ≤ number → bases_put number parts ≡ []
  pub new_with : (number : ℕ) → length before ≤ number → number < length now → HasLowPair (term_page number now)
  pub filled : IsTrue honest → (set : PairSet) → IsIndex before set → (number : ℕ) → number < length before
      → 0 < length (bases_put number parts) → (p : Pair) → IsPageOf p number before → set p ≡ true → HasSome (term_page number now)
  pub met : IsTrue honest → (number : ℕ) → number < length before → 0 < length (bases_put number parts) → IsInGrammar (term_page number before)
  pub ready : IsReady at before now parts
  pub stuck : (number : ℕ) → number < length before → IsPassed at number before → IsStuck honest number before now
