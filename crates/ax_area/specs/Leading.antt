-- Changes of term pages alone: what they make of the pages, whatever else a store has.
-- From the store's own file format (docs/FORMAT.md, "Parts"); no other document has it.
use Rattle.std.specs.Prelude.{◌≡◌, List, Some}
use Rattle.ax_pages.specs.Contents.{TermPage}
use Rattle.ax_area.specs.Changes.{Change}
use Rattle.ax_area.specs.Contents.{Contents, after_changes}

-- The changes make these term pages those and nothing else, in each store that has these.
pub record LeadTo (changes : List Change) (before after : List TermPage) : Type 0 where
  pub lead : (contents : Contents) → contents.terms ≡ before
      → after_changes changes contents ≡ Some (record contents { terms = after })
