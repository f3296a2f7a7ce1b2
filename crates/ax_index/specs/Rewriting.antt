-- A page written anew, with new pages behind it where its pairs are more than one page is to have. Only clauses
-- of private functions cite it. It is this project's own; it comes from no public document.
use Rattle.std.specs.Prelude.{◌≡◌, ◌≢◌, ℕ, ◌<◌, ◌≤◌, Bool, true, false, if◌then◌else◌, List, ◌∷◌, [], ◌++◌, length}
use Rattle.std.specs.declared.cmp.Ordering.TheVariants.{Less}
use Rattle.ax_delta.specs.Said.{has}
use Rattle.ax_frame.specs.Part.{PartValue}
use Rattle.ax_pair.specs.declared.pair.Pair.{Pair}
use Rattle.ax_pair.specs.Order.{pair_cmp}
use Rattle.ax_leaf.specs.Pairs.{postings_of}
use Rattle.ax_leaf.specs.Payload.{IsLeaf}
use Rattle.ax_pages.specs.Contents.{TermPage, term_page}
use Rattle.ax_pages.specs.TermPages.{IsPageOf, low_pair}
use Rattle.ax_pages.specs.declared.numbers.TheConstants.{BASE}
use Rattle.ax_pairs.specs.Index.{AllBelong, IsIndex}
use Rattle.ax_pairs.specs.PairSets.{PairSet}
use Rattle.ax_pairs.specs.TermParts.{LeadTo, bases_below}
use Rattle.ax_store.specs.Kept.{deltas_of}
use Rattle.ax_index.specs.Bare.{has_deltas}
use Rattle.ax_index.specs.Carried.{HasLowPair, HasSome, bases_put}

-- Behind the parts that a batch had, a base of these pairs was put.
pub record IsBasePut (number : ℕ) (low : Pair) (pairs : List Pair) (old new : List PartValue) : Type 0 where
  pub payload : List ℕ
  pub is : IsLeaf payload low (postings_of pairs)
  pub added : new ≡ old ++ record { kind = BASE; key = number; payload = payload } ∷ []

-- a set without the pairs of a list
abbrev pub without : List Pair → PairSet → Pair → Bool
without pairs set p = if has p pairs then false else set p

-- of the pairs of the page the second set has those of the list, and of others the same as the first
pub record Replaces (page : ℕ) (list : List Pair) (now : List TermPage) (set after : PairSet) : Type 0 where
  pub here : (p : Pair) → IsPageOf p page now → has p list ≡ after p
  pub others : (p : Pair) (m : ℕ) → m ≢ page → IsPageOf p m now → set p ≡ after p

-- The parts are a base of the page and first bases of new pages, which have the pairs of the list but for the
-- rest, which belongs to the last of them.
pub record Rewrites (page : ℕ) (list rest : List Pair) (now : List TermPage) (parts : List PartValue) (after : List TermPage) : Type 0 where
  pub lead : LeadTo parts now after
  pub longer : length now ≤ length after
  pub lows : (n : ℕ) → n < length now → low_pair n after ≡ low_pair n now
  pub same : (n : ℕ) → n < length now → n ≢ page → term_page n after ≡ term_page n now
  pub no_deltas : (n : ℕ) → deltas_of n parts ≡ 0
  pub there : page < length now
  pub bare : has_deltas (term_page page after) ≡ false
  pub new_bare : (n : ℕ) → length now ≤ n → n < length after → has_deltas (term_page n after) ≡ false
  pub one_base : (count : ℕ) → page < count → count ≤ length now → bases_below count parts ≡ 1
  pub own : length (bases_put page parts) ≡ 1
  pub elsewhere : (n : ℕ) → n < length now → n ≢ page → bases_put n parts ≡ []
  pub new_once : (n : ℕ) → length now ≤ n → n < length after → length (bases_put n parts) ≡ 1
  pub none_beyond : (n : ℕ) → length after ≤ n → bases_put n parts ≡ []
  pub new_with : (n : ℕ) → length now ≤ n → n < length after → HasLowPair (term_page n after)
  pub filled : 0 < length list → HasSome (term_page page after)
  pub fresh : (n : ℕ) → length now ≤ n → n < length after → has (low_pair n after) list ≡ true
  pub front : List Pair
  pub whole : list ≡ front ++ rest
  pub last : ℕ
  pub inside : (p : Pair) → IsPageOf p last after → IsPageOf p page now
  pub belong : AllBelong rest last after
  pub above : (p : Pair) → has p rest ≡ true → pair_cmp (low_pair last after) p ≡ Less
  pub holds : (set with_list : PairSet) → IsIndex now set → Replaces page list now set with_list → IsIndex after (without rest with_list)

-- Behind the parts that a batch had such parts were put, after which the next new page has that number.
pub record IsRewrittenTo (page : ℕ) (list rest : List Pair) (now : List TermPage) (next : ℕ) (old new : List PartValue) : Type 0 where
  pub parts : List PartValue
  pub added : new ≡ old ++ parts
  pub after : List TermPage
  pub rewrites : Rewrites page list rest now parts after
  pub next_is : next ≡ length after

-- nothing is left
abbrev pub IsRewritten : ℕ → List Pair → List TermPage → ℕ → List PartValue → List PartValue → Type 0
IsRewritten page list now next old new = IsRewrittenTo page list [] now next old new
