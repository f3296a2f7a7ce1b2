-- The set of pairs that term pages hold: each pair stands in the page to which it belongs.
-- From the store's own file format (docs/FORMAT.md, "Term pages"). The index as a set of pairs of a term and
-- a document, the pairs of all its pages: Shukla et al., "Schema-Agnostic Indexing with Azure DocumentDB",
-- VLDB 2015.
use Rattle.std.specs.Prelude.{◌≡◌, ℕ, ◌<◌, true, List, length}
use Rattle.ax_pair.specs.declared.pair.Pair.{Pair}
use Rattle.ax_delta.specs.Said.{has}
use Rattle.ax_pages.specs.Contents.{TermPage, term_page}
use Rattle.ax_pages.specs.TermPages.{AreApart, IsPageOf}
use Rattle.ax_pairs.specs.PagePairs.{HasPairs}
use Rattle.ax_pairs.specs.PairSets.{PairSet}

-- the pairs belong to the page
abbrev pub AllBelong : List Pair → ℕ → List TermPage → Type 0
AllBelong pairs number pages = (p : Pair) → has p pairs ≡ true → IsPageOf p number pages

-- Each page has pairs, of which each belongs to it, and of the pairs that belong to it it has those of the
-- set.
pub record IsIndex (pages : List TermPage) (set : PairSet) : Type 0 where
  pub apart : AreApart pages
  -- of each page, by number
  pub pairs : ℕ → List Pair
  pub have : (number : ℕ) → number < length pages → HasPairs (term_page number pages) (pairs number)
  pub belong : (number : ℕ) → number < length pages → AllBelong (pairs number) number pages
  pub all : (number : ℕ) (p : Pair) → IsPageOf p number pages → has p (pairs number) ≡ set p
