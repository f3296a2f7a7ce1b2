-- Words of the calls that read parts. Only clauses of private functions cite these.
-- It is this project's own; it comes from no public document.
use Rattle.std.specs.Prelude.{◌≡◌, ◌↔◌, ◌⊎◌, ◌&&◌, ℕ, ◌+◌, ◌<◌, Bool, true, List, [], ◌∷◌, length, Option, Some, None, is_some, if◌then◌else◌}
use Rattle.std.specs.declared.cmp.Ordering.TheVariants.{Greater}
use Rattle.std.specs.Ordering.{is_lt}
use Rattle.ax_pair.specs.declared.pair.Pair.{Pair}
use Rattle.ax_pair.specs.Order.{pair_cmp}
use Rattle.ax_delta.specs.Said.{has, has_number}
use Rattle.ax_pages.specs.Contents.{TermPage, low_of}
use Rattle.ax_pages.specs.TermPages.{low_pair}
use Rattle.ax_store.specs.declared.store.Store.{Store}
use Rattle.ax_store.specs.Store.{SameButReads, store_slots}
use Rattle.ax_pairs.specs.PairSets.{PairSet}
use Rattle.ax_term.specs.TermOrder.{order_of_bytes}
use Rattle.ax_term.specs.declared.range.TermRange.{TermRange}
use Rattle.ax_index.specs.declared.wanted.Wanted.{Wanted}
use Rattle.ax_index.specs.Wanted.{is_in_some, is_wanted}

-- nothing changed but the bytes of slots and the cache, and the store may have failed
pub record SameButBytes {C : Type 0} (old new : Store C) : Type 0 where
  pub same : SameButReads old new
  pub taken : (store_slots new).taken ≡ (store_slots old).taken

-- the position of a page's oldest delta among its parts
abbrev pub first_delta : TermPage → ℕ
first_delta page = if is_some page.base then 1 else 0

-- the pairs of the wanted terms
abbrev pub wanted_of : Wanted → List Pair → List Pair
wanted_of wanted [] = []
wanted_of wanted (p ∷ pairs) = if is_wanted wanted p.term then p ∷ wanted_of wanted pairs else wanted_of wanted pairs

-- the numbers of the pairs whose terms are in one of the ranges
abbrev pub numbers_of : List TermRange → List Pair → List ℕ
numbers_of ranges [] = []
numbers_of ranges (p ∷ pairs) = if is_in_some ranges p.term then p.number ∷ numbers_of ranges pairs else numbers_of ranges pairs

-- a pair of this number, whose term is in one of the ranges, is among them
abbrev pub HasAmong : List TermRange → List Pair → ℕ → Type 0
HasAmong ranges pairs number =
    (term : List ℕ) × (is_in_some ranges term ≡ true) × (has (record { term = term; number = number }) pairs ≡ true)

-- the same of a set
abbrev pub HasWithin : List TermRange → PairSet → ℕ → Type 0
HasWithin ranges set number =
    (term : List ℕ) × (is_in_some ranges term ≡ true) × (set (record { term = term; number = number }) ≡ true)

-- to the numbers came those of the pairs whose terms are in one of the ranges
abbrev pub Gathers : List TermRange → List Pair → List ℕ → List ℕ → Type 0
Gathers ranges pairs old new =
    (number : ℕ) → (has_number number new ≡ true) ↔ ((has_number number old ≡ true) ⊎ HasAmong ranges pairs number)

-- the term is the other, or before it
abbrev pub IsTermUpTo : List ℕ → List ℕ → Type 0
IsTermUpTo term other = order_of_bytes term other ≡ Greater → ⊥

-- there is a start, and the term is not before it
abbrev pub StartsUpTo : Option (List ℕ) → List ℕ → Type 0
StartsUpTo None term = ⊥
StartsUpTo (Some start) term = IsTermUpTo start term

-- the range has terms, and this one is before its end
abbrev pub has_terms_from : TermRange → List ℕ → Bool
has_terms_from range term = is_lt (order_of_bytes term range.below) && is_lt (order_of_bytes range.from range.below)

-- how many pages have a low pair after this one
abbrev pub pages_after : Pair → List TermPage → ℕ
pages_after low [] = 0
pages_after low (page ∷ pages) = (if is_lt (pair_cmp low (low_of page)) then 1 else 0) + pages_after low pages

-- the page that comes next is there, and its low pair is not after the pair
abbrev pub IsAhead : Option ℕ → Pair → List TermPage → Type 0
IsAhead None p pages = ⊥
IsAhead (Some page) p pages = (page < length pages) × (pair_cmp (low_pair page pages) p ≡ Greater → ⊥)
