-- What the parts of a plan make of the term pages: exactly the changes asked for, by few bases.
-- It is this project's own; it comes from no public document.
use Rattle.std.specs.Prelude.{◌≡◌, ℕ, ◌<◌, ◌≤◌, Bool, true, List, [], ◌++◌, length, IsTrue}
use Rattle.ax_delta.specs.declared.change.Change.{Change}
use Rattle.ax_frame.specs.Part.{PartValue}
use Rattle.ax_pair.specs.declared.pair.Pair.{Pair}
use Rattle.ax_pages.specs.Contents.{TermPage, term_page}
use Rattle.ax_pages.specs.TermPages.{AreApart, IsPageOf}
use Rattle.ax_pairs.specs.Index.{IsIndex}
use Rattle.ax_pairs.specs.PairSets.{PairSet, with_changes}
use Rattle.ax_pairs.specs.TermParts.{LeadTo, bases_below}
use Rattle.ax_store.specs.declared.store.Store.{Store}
use Rattle.ax_store.specs.Kept.{deltas_of}
use Rattle.ax_store.specs.Store.{store_contents, store_offsets, store_slots}
use Rattle.ax_index.specs.Grammar.{IsInGrammar}
use Rattle.ax_index.specs.Carried.{HasLowPair, HasSome, IsSettled, bases_put, deltas_put}

-- the most pages that are merged in one batch
abbrev pub most_merged : ℕ
most_merged = 16

-- Behind the parts that a batch had, parts were put that make the changes in the set which the pages hold, where
-- the disk from which parts were read is honest. So many of them are bases of pages that were there, and those are
-- few. A page that was there and is not merged gets just the changes of the list that are of it, and a new page has
-- one base, no deltas and a pair; of a page that there is not then there is no part. A page that is merged is left
-- without pairs only where the changes leave it none; and over an honest disk each of its parts was in its grammar.
pub record IsPlan (honest : Bool) (changes : List Change) (merged : ℕ) (old new : List PartValue) (before : List TermPage) : Type 0 where
  pub parts : List PartValue
  pub added : new ≡ old ++ parts
  pub after : List TermPage
  pub lead : LeadTo parts before after
  pub holds : IsTrue honest → (set : PairSet) → IsIndex before set → IsIndex after (with_changes changes set)
  pub merges : merged ≡ bases_below (length before) parts
  pub few : merged ≤ most_merged
  pub each : AreApart before → (number : ℕ) → number < length before → IsSettled number before changes parts
  pub new_without : (number : ℕ) → length before ≤ number → deltas_put number parts ≡ []
  pub new_once : (number : ℕ) → length before ≤ number → number < length after → length (bases_put number parts) ≡ 1
  pub none_beyond : (number : ℕ) → length after ≤ number → bases_put number parts ≡ []
  pub new_with : (number : ℕ) → length before ≤ number → number < length after → HasLowPair (term_page number after)
  pub filled : IsTrue honest → (set : PairSet) → IsIndex before set → (number : ℕ) → number < length before
      → 0 < length (bases_put number parts) → (p : Pair) → IsPageOf p number before → with_changes changes set p ≡ true
      → HasSome (term_page number after)
  pub met : IsTrue honest → (number : ℕ) → number < length before → 0 < length (bases_put number parts) → IsInGrammar (term_page number before)

-- no part is a delta of a term page
abbrev pub HasNoDeltas : List PartValue → Type 0
HasNoDeltas parts = (number : ℕ) → deltas_of number parts ≡ 0

-- nothing changed but the room, the bytes of slots and what the cache holds; and the store may have failed
pub record SameButRoomAndBytes {C : Type 0} (old new : Store C) : Type 0 where
  pub logged : new.log ≡ old.log
  pub contents : store_contents new ≡ store_contents old
  pub offsets : store_offsets new ≡ store_offsets old
  pub taken : (store_slots new).taken ≡ (store_slots old).taken
