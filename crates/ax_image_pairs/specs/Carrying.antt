-- Changes of documents with those of the index behind them: where they lead.
-- It is this project's own; it comes from no public document.
use Rattle.std.specs.Prelude.{◌≡◌, List, ◌++◌, Some}
use Rattle.ax_area.specs.Changes.{Change}
use Rattle.ax_area.specs.Contents.{Contents, after_changes}
use Rattle.ax_container.specs.Container.{Container}
use Rattle.ax_delta.specs.declared.change.Change.{Change as PairChange}
use Rattle.ax_image_pairs.specs.Indexed.{LeadsToAll}
use Rattle.ax_pages.specs.Contents.{TermPage}
use Rattle.ax_pairs.specs.Index.{IsIndex}
use Rattle.ax_pairs.specs.PairSets.{PairSet, with_changes}

-- The changes turn the term pages into others, of any contents that have these, and change nothing else; and
-- of the set that the pages hold they make the one in which the pairs are changed.
pub record MakeChanges (pairs : List PairChange) (changes : List Change) (before : List TermPage) : Type 0 where
  pub after : List TermPage
  pub lead : (contents : Contents) → contents.terms ≡ before
      → after_changes changes contents ≡ Some (record contents { terms = after })
  pub holds : (set : PairSet) → IsIndex before set → IsIndex after (with_changes pairs set)

-- whatever changes of the index make those of the pairs, the changes of documents lead with them to the container
pub record Carries (contents : Contents) (front : List Change) (pairs : List PairChange) (after : Container) : Type 0 where
  pub carry : (behind : List Change) → MakeChanges pairs behind contents.terms → LeadsToAll contents (front ++ behind) after
