-- Deltas of one page that carry changes: what they make of the pages. Only clauses of private functions cite it.
-- It is this project's own; it comes from no public document.
use Rattle.std.specs.Prelude.{◌≡◌, ◌≢◌, ℕ, ◌<◌, ◌≤◌, List, ◌++◌, length}
use Rattle.ax_delta.specs.declared.change.Change.{Change}
use Rattle.ax_delta.specs.Changes.{changed_pairs, term_changes_of}
use Rattle.ax_delta.specs.Payload.{delta}
use Rattle.ax_frame.specs.Part.{PartValue}
use Rattle.ax_pages.specs.Contents.{TermPage, term_page}
use Rattle.ax_pages.specs.TermPages.{low_pair}
use Rattle.ax_pairs.specs.Index.{AllBelong, IsIndex}
use Rattle.ax_pairs.specs.PairSets.{PairSet, with_changes}
use Rattle.ax_pairs.specs.TermParts.{LeadTo, bases_below}
use Rattle.ax_store.specs.Kept.{deltas_of}
use Rattle.ax_index.specs.Carried.{AreDeltasOf, deltas_put, most_payload}

-- as many pages, each with its low pair
pub record KeepLows (before after : List TermPage) : Type 0 where
  pub many : length after ≡ length before
  pub low : (n : ℕ) → low_pair n after ≡ low_pair n before

-- the parts are deltas of that page alone, and carry the changes
pub record CarryChanges (page : ℕ) (changes : List Change) (now : List TermPage) (parts : List PartValue) (after : List TermPage) : Type 0 where
  pub lead : LeadTo parts now after
  pub lows : KeepLows now after
  pub same : (n : ℕ) → n ≢ page → term_page n after ≡ term_page n now
  pub deltas : (n : ℕ) → n ≢ page → deltas_of n parts ≡ 0
  pub no_bases : (count : ℕ) → bases_below count parts ≡ 0
  pub are : AreDeltasOf changes (deltas_put page parts)
  pub holds : (set : PairSet) → IsIndex now set → AllBelong (changed_pairs changes) page now → IsIndex after (with_changes changes set)

-- Behind the parts that a batch had such parts were put, of which so many are deltas of the page.
pub record ArePut (page : ℕ) (changes : List Change) (now : List TermPage) (count : ℕ) (old new : List PartValue) : Type 0 where
  pub parts : List PartValue
  pub added : new ≡ old ++ parts
  pub after : List TermPage
  pub carry : CarryChanges page changes now parts after
  pub counted : deltas_of page parts ≡ count

-- deltas of the changes are more than one only where one would be longer than a part may be
abbrev pub AreFew : List Change → ℕ → Type 0
AreFew changes count = 1 < count → most_payload < length (delta (term_changes_of changes))

-- Behind the parts that a batch had deltas of the page were put that carry the changes, for which there is room.
pub record AreCarried (page : ℕ) (changes : List Change) (now : List TermPage) (room : ℕ) (old new : List PartValue) : Type 0 where
  pub count : ℕ
  pub put : ArePut page changes now count old new
  pub enough : count ≤ room
  pub few : AreFew changes count
