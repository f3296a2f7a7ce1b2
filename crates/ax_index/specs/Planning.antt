-- How far a plan has come. Only clauses of private functions cite it.
-- It is this project's own; it comes from no public document.
use Rattle.std.specs.Prelude.{◌≡◌, ◌≢◌, ℕ, ◌<◌, ◌≤◌, ◌⊎◌, Bool, true, false, if◌then◌else◌, List, [], ◌∷◌, ◌++◌, length, IsTrue}
use Rattle.std.specs.declared.cmp.Ordering.TheVariants.{Less}
use Rattle.ax_delta.specs.declared.change.Change.{Change}
use Rattle.ax_delta.specs.Changes.{changed_pairs}
use Rattle.ax_delta.specs.Said.{has}
use Rattle.ax_frame.specs.Part.{PartValue}
use Rattle.ax_pair.specs.declared.pair.Pair.{Pair}
use Rattle.ax_pair.specs.Order.{pair_cmp}
use Rattle.ax_pages.specs.Contents.{TermPage, term_page}
use Rattle.ax_pages.specs.TermPages.{AreApart, IsLastPage, IsNextPage, IsPageOf, low_pair}
use Rattle.ax_pairs.specs.Index.{IsIndex}
use Rattle.ax_pairs.specs.PairSets.{PairSet, with_changes}
use Rattle.ax_pairs.specs.TermParts.{LeadTo, bases_below}
use Rattle.ax_store.specs.Kept.{deltas_of}
use Rattle.ax_index.specs.Bare.{has_deltas}
use Rattle.ax_index.specs.Grammar.{IsInGrammar}
use Rattle.ax_index.specs.Carried.{AreCarriedBy, HasLowPair, HasSome, IsSettled, bases_put, deltas_put}

-- each pair is before the bound
abbrev pub AreBefore : List Pair → Pair → Type 0
AreBefore pairs bound = (p : Pair) → has p pairs ≡ true → pair_cmp p bound ≡ Less

-- there is no change, or that of the first pair is not before the bound
abbrev pub StartsFrom : List Change → Pair → Type 0
StartsFrom [] bound = Unit {0}
StartsFrom (change ∷ changes) bound = pair_cmp change.pair bound ≡ Less → ⊥

-- changes parted at a pair
pub record IsPartedBy (bound : Pair) (before behind : List Change) : Type 0 where
  pub are_before : AreBefore (changed_pairs before) bound
  pub starts : StartsFrom behind bound

-- Changes parted at the end of a page: where the next page begins, or nowhere where no page is behind it.
abbrev pub IsPartedAt : ℕ → List Change → List Change → List TermPage → Type 0
IsPartedAt page run behind pages =
    ((next : ℕ) × IsNextPage page next pages × IsPartedBy (low_pair next pages) run behind)
    ⊎ (IsLastPage page pages × (behind ≡ []))

-- Pages whose low pairs are not before the bound are as they were, and new pages have low pairs before it.
pub record IsUpTo (bound : Pair) (before now : List TermPage) (parts : List PartValue) : Type 0 where
  pub longer : length before ≤ length now
  pub lows : (n : ℕ) → n < length before → low_pair n now ≡ low_pair n before
  pub fresh : (n : ℕ) → length before ≤ n → n < length now → pair_cmp (low_pair n now) bound ≡ Less
  pub same : (n : ℕ) → n < length before → (pair_cmp (low_pair n before) bound ≡ Less → ⊥) → term_page n now ≡ term_page n before
  pub none : (n : ℕ) → n < length before → (pair_cmp (low_pair n before) bound ≡ Less → ⊥) → deltas_of n parts ≡ 0
  pub no_bases : (n : ℕ) → n < length before → (pair_cmp (low_pair n before) bound ≡ Less → ⊥) → bases_put n parts ≡ []

-- what is put for one page: a base, where it is merged, and else deltas that carry the changes
abbrev pub IsPutBy : Bool → List Change → List (List ℕ) → List (List ℕ) → Type 0
IsPutBy true changes bases deltas = (length bases ≡ 1) × (deltas ≡ [])
IsPutBy false changes bases deltas = (bases ≡ []) × AreCarriedBy changes deltas

-- What the parts put for one page and the changes of it make of the pages as they are now: new pages have
-- low pairs before the page that was next.
pub record IsPageDone (honest : Bool) (page : ℕ) (changes : List Change) (before now : List TermPage) (parts : List PartValue) (after : List TermPage)
    (merged : Bool) : Type 0 where
  pub lead : LeadTo parts now after
  pub longer : length now ≤ length after
  pub lows : (n : ℕ) → n < length now → low_pair n after ≡ low_pair n now
  pub fresh : (n : ℕ) → length now ≤ n → n < length after → (next : ℕ) → IsNextPage page next before
      → pair_cmp (low_pair n after) (low_pair next before) ≡ Less
  pub same : (n : ℕ) → n < length now → n ≢ page → term_page n after ≡ term_page n now
  pub deltas : (n : ℕ) → n ≢ page → deltas_of n parts ≡ 0
  pub bases : bases_below (length before) parts ≡ (if merged then 1 else 0)
  pub elsewhere : (n : ℕ) → n < length now → n ≢ page → bases_put n parts ≡ []
  pub new_once : (n : ℕ) → length now ≤ n → n < length after → length (bases_put n parts) ≡ 1
  pub none_beyond : (n : ℕ) → length after ≤ n → bases_put n parts ≡ []
  pub put : IsPutBy merged changes (bases_put page parts) (deltas_put page parts)
  pub new_with : (n : ℕ) → length now ≤ n → n < length after → HasLowPair (term_page n after)
  pub filled : merged ≡ true → IsTrue honest → (set : PairSet) → IsIndex now set → (p : Pair) → IsPageOf p page now
      → with_changes changes set p ≡ true → HasSome (term_page page after)
  pub bare : merged ≡ true → has_deltas (term_page page after) ≡ false
  pub new_bare : (n : ℕ) → length now ≤ n → n < length after → has_deltas (term_page n after) ≡ false
  pub holds : IsTrue honest → (set : PairSet) → IsIndex now set → IsIndex after (with_changes changes set)

-- Behind the parts that a batch had such parts were put.
pub record IsPagePlanned (honest : Bool) (page : ℕ) (changes : List Change) (before now : List TermPage) (merged : Bool) (next : ℕ) (room : ℕ → ℕ)
    (old new : List PartValue) : Type 0 where
  pub parts : List PartValue
  pub added : new ≡ old ++ parts
  pub after : List TermPage
  pub done : IsPageDone honest page changes before now parts after merged
  pub next_is : next ≡ length after
  pub enough : deltas_of page parts ≤ room page

-- the first of the changes is of the page
abbrev pub IsFirstOf : List Change → ℕ → List TermPage → Type 0
IsFirstOf [] page pages = ⊥
IsFirstOf (change ∷ changes) page pages = IsPageOf change.pair page pages

-- The changes but for the rest are planned.
pub record IsPlannedTo (honest : Bool) (changes rest : List Change) (before : List TermPage) (merged next : ℕ) (room : ℕ → ℕ)
    (old new : List PartValue) : Type 0 where
  pub parts : List PartValue
  pub added : new ≡ old ++ parts
  pub done : List Change
  pub whole : changes ≡ done ++ rest
  pub now : List TermPage
  pub lead : LeadTo parts before now
  pub holds : IsTrue honest → (set : PairSet) → IsIndex before set → IsIndex now (with_changes done set)
  pub merges : merged ≡ bases_below (length before) parts
  pub next_is : next ≡ length now
  pub ready : (page : ℕ) → IsFirstOf rest page before → IsUpTo (low_pair page before) before now parts
  pub enough : (number : ℕ) → deltas_of number parts ≤ room number
  pub passed : (page : ℕ) → IsFirstOf rest page before → AreBefore (changed_pairs done) (low_pair page before)
  pub each : AreApart before → (number : ℕ) → number < length before → IsSettled number before done parts
  pub longer : length before ≤ length now
  pub new_without : (number : ℕ) → length before ≤ number → deltas_of number parts ≡ 0
  pub new_once : (number : ℕ) → length before ≤ number → number < length now → length (bases_put number parts) ≡ 1
  pub none_beyond : (number : ℕ) → length now ≤ number → bases_put number parts ≡ []
  pub new_with : (number : ℕ) → length before ≤ number → number < length now → HasLowPair (term_page number now)
  pub filled : IsTrue honest → (set : PairSet) → IsIndex before set → (number : ℕ) → number < length before
      → 0 < length (bases_put number parts) → (p : Pair) → IsPageOf p number before → with_changes done set p ≡ true
      → HasSome (term_page number now)
  pub met : IsTrue honest → (number : ℕ) → number < length before → 0 < length (bases_put number parts) → IsInGrammar (term_page number before)
