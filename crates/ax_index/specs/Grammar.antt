-- Which parts of term pages a call that answers over an honest disk has found to be in their grammar: each that it
-- read. It is this project's own; it comes from no public document.
use Rattle.std.specs.Prelude.{◌≡◌, ◌⊎◌, ℕ, ◌<◌, ◌≤◌, Bool, true, List, [], length, slice_index_or, Option, Some, None}
use Rattle.ax_delta.specs.Changes.{TermChange}
use Rattle.ax_delta.specs.Payload.{IsDelta}
use Rattle.ax_delta.specs.Said.{has, has_number, said_of}
use Rattle.ax_pair.specs.declared.pair.Pair.{Pair}
use Rattle.ax_pages.specs.Contents.{TermPage, term_page, term_parts}
use Rattle.ax_pages.specs.TermPages.{AreApart, IsPageOf}
use Rattle.ax_pairs.specs.PagePairs.{HasPairs}
use Rattle.ax_term.specs.declared.range.TermRange.{TermRange}
use Rattle.ax_index.specs.Reading.{first_delta}
use Rattle.ax_index.specs.Wanted.{is_in_some}

-- the page has pairs: its base, where it has one, and each of its deltas are in their grammar
abbrev pub IsInGrammar : TermPage → Type 0
IsInGrammar page = (pairs : List Pair) × HasPairs page pairs

-- Each page to which a pair with a term in one of the ranges belongs has pairs, where no two pages have one low pair.
abbrev pub AreInGrammar : List TermRange → List TermPage → Type 0
AreInGrammar ranges pages =
    AreApart pages → (p : Pair) (number : ℕ) → is_in_some ranges p.term ≡ true → IsPageOf p number pages → IsInGrammar (term_page number pages)

-- The pages have a pair of this number with a term in one of the ranges: it is among the pairs of the page to which it belongs.
pub record StandsIn (ranges : List TermRange) (pages : List TermPage) (number : ℕ) : Type 0 where
  pub term : List ℕ
  pub within : is_in_some ranges term ≡ true
  pub page : ℕ
  pub of : IsPageOf (record { term = term; number = number }) page pages
  pub pairs : List Pair
  pub have : HasPairs (term_page page pages) pairs
  pub there : has (record { term = term; number = number }) pairs ≡ true

-- each number that the pages have so is among these, where no two pages have one low pair
abbrev pub HasAllThatStand : List TermRange → List TermPage → List ℕ → Type 0
HasAllThatStand ranges pages numbers = AreApart pages → (number : ℕ) → StandsIn ranges pages number → has_number number numbers ≡ true

-- the part of a page at that position is a delta with these changes
abbrev pub IsDeltaAt : TermPage → ℕ → List TermChange → Type 0
IsDeltaAt page i changes = IsDelta (slice_index_or (term_parts page) i []) changes

-- each part of a page from that position on is a delta
abbrev pub AreDeltasFrom : TermPage → ℕ → Type 0
AreDeltasFrom page from = (i : ℕ) → from ≤ i → i < length (term_parts page) → (changes : List TermChange) × IsDeltaAt page i changes

-- a delta says this of the pair, and it and those behind it are in their grammar
pub record IsSaidBy (p : Pair) (added : Bool) (page : TermPage) : Type 0 where
  pub i : ℕ
  pub from : first_delta page ≤ i
  pub there : i < length (term_parts page)
  pub changes : List TermChange
  pub is : IsDeltaAt page i changes
  pub says : said_of p changes ≡ Some added
  pub met : AreDeltasFrom page i

-- the deltas of a page were looked at, from the newest back to one that says this of the pair, or all
abbrev pub IsLookedBack : Pair → Option Bool → TermPage → Type 0
IsLookedBack p None page = AreDeltasFrom page (first_delta page)
IsLookedBack p (Some added) page = IsSaidBy p added page

-- a delta says this of the pair, and it and those behind it are in their grammar; or all parts of the page are, and this
-- is whether the pair is among its pairs
abbrev pub IsLookedAt : Pair → Bool → TermPage → Type 0
IsLookedAt p found page = IsSaidBy p found page ⊎ ((pairs : List Pair) × HasPairs page pairs × (has p pairs ≡ found))
