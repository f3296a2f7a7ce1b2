-- The order of term pages by their low pairs: which page a pair belongs to, and which page is next.
-- From the store's own file format (docs/FORMAT.md, "Term pages"); the pages of an ordered index as in a
-- B-tree's leaves (Bayer and McCreight, "Organization and maintenance of large ordered indexes", 1972).
use Rattle.std.specs.Prelude.{◌≡◌, ℕ, ◌<◌, List, length}
use Rattle.std.specs.declared.cmp.Ordering.TheVariants.{Less, Greater}
use Rattle.ax_pair.specs.declared.pair.Pair.{Pair}
use Rattle.ax_pair.specs.Low.{first_pair}
use Rattle.ax_pair.specs.Order.{pair_cmp}
use Rattle.ax_pages.specs.Contents.{TermPage, low_of, term_page}

-- the low pair of the page of that number
abbrev pub low_pair : ℕ → List TermPage → Pair
low_pair number pages = low_of (term_page number pages)

-- There is a page, the first may have each pair, and pages of one low pair are the same page.
pub record AreApart (pages : List TermPage) : Type 0 where
  pub some : 0 < length pages
  pub first : low_pair 0 pages ≡ first_pair
  pub apart : (m n : ℕ) → m < length pages → n < length pages → low_pair m pages ≡ low_pair n pages → m ≡ n

-- the page is there still, with the same low pair
pub record KeepsLow (number : ℕ) (before after : List TermPage) : Type 0 where
  pub there : number < length after
  pub same : low_pair number after ≡ low_pair number before

-- The pair belongs to the page: of the pages whose low pairs are not after the pair, it has the greatest
-- low pair.
pub record IsPageOf (pair : Pair) (number : ℕ) (pages : List TermPage) : Type 0 where
  pub there : number < length pages
  pub below : pair_cmp (low_pair number pages) pair ≡ Greater → ⊥
  pub greatest : (other : ℕ) → other < length pages → (pair_cmp (low_pair other pages) pair ≡ Greater → ⊥)
      → pair_cmp (low_pair other pages) (low_pair number pages) ≡ Greater → ⊥

-- no page has a low pair after that of this page
abbrev pub IsLastPage : ℕ → List TermPage → Type 0
IsLastPage number pages =
    (other : ℕ) → other < length pages → pair_cmp (low_pair number pages) (low_pair other pages) ≡ Less → ⊥

-- of the pages whose low pairs are after that of this page, the next one has the least low pair
pub record IsNextPage (number next : ℕ) (pages : List TermPage) : Type 0 where
  pub there : next < length pages
  pub after : pair_cmp (low_pair number pages) (low_pair next pages) ≡ Less
  pub least : (other : ℕ) → other < length pages → pair_cmp (low_pair number pages) (low_pair other pages) ≡ Less
      → pair_cmp (low_pair other pages) (low_pair next pages) ≡ Less → ⊥
