-- Which term pages have deltas.
-- It is this project's own; it comes from no public document.
use Rattle.std.specs.Prelude.{ℕ, Bool, nat_lt, List, length, count_by}
use Rattle.ax_pages.specs.Contents.{TermPage}

abbrev pub has_deltas : TermPage → Bool
has_deltas page = nat_lt 0 (length page.deltas)

-- how many of the pages do
abbrev pub with_deltas : List TermPage → ℕ
with_deltas pages = count_by has_deltas pages
