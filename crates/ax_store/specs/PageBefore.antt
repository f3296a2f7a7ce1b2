-- Which term page comes before another in the order of low pairs.
-- From the store's own file format (docs/FORMAT.md, "Term pages"); no other document has it.
use Rattle.std.specs.Prelude.{◌≡◌, ℕ, ◌<◌, List, length}
use Rattle.std.specs.declared.cmp.Ordering.TheVariants.{Less}
use Rattle.ax_pair.specs.Order.{pair_cmp}
use Rattle.ax_pages.specs.Contents.{TermPage}
use Rattle.ax_pages.specs.TermPages.{IsNextPage, low_pair}

-- no page has a low pair before that of this page
abbrev pub IsFirstPage : ℕ → List TermPage → Type 0
IsFirstPage number pages =
    (other : ℕ) → other < length pages → pair_cmp (low_pair other pages) (low_pair number pages) ≡ Less → ⊥

-- the page is there, and the page of that number is the next one to it
pub record IsPageBefore (previous number : ℕ) (pages : List TermPage) : Type 0 where
  pub there : previous < length pages
  pub next : IsNextPage previous number pages
