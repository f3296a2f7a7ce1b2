-- What a write owes of its changes, so that the image stays in the grammar: each can be written in
-- an area of the version and can be read again. And what a write of documents does to keep policies
-- apart: it takes the policy now. From the store's own file format (docs/FORMAT.md); no other
-- document has it.
use Rattle.std.specs.Prelude.{◌≡◌, ℕ, List, Some}
use Rattle.std.specs.List.{AllByRecursion}
use Rattle.ax_area.specs.Changes.{Change}
use Rattle.ax_area.specs.Changes as change
use Rattle.ax_area.specs.Contents.{Contents, after_changes}
use Rattle.ax_area.specs.Writing.{CanWrite}
use Rattle.ax_image_grammar.specs.Payloads.{IsReadable}
use Rattle.ax_image_grammar.specs.Table.{AreApart}

-- the changes may be committed where an area of this version has these contents, and lead to those
pub record MayCommit (newest version : ℕ) (changes : List Change)
    (before after : Contents) : Type 0 where
  pub can : AllByRecursion (CanWrite version) changes
  pub readable : AllByRecursion (IsReadable newest) changes
  pub lead : after_changes changes before ≡ Some after
  pub apart : AreApart after

-- the change takes no policy but the one now, and gives none
abbrev pub KeepsTo : ℕ → Change → Type 0
KeepsTo now (change.Meta numbers) = numbers.policy ≡ now
KeepsTo now (change.Policy number text) = ⊥
KeepsTo now (change.Document number written) = written.policy ≡ now
KeepsTo now (change.Gone number) = Unit {0}
KeepsTo now (change.Base page payload) = Unit {0}
KeepsTo now (change.Delta page payload) = Unit {0}
