-- What holds of all contents to which changes lead from nothing.
-- From the store's own file format (docs/FORMAT.md, "Parts"); no other document has it.
use Rattle.std.specs.Prelude.{◌≡◌, ℕ, ◌≤◌, Some, true}
use Rattle.std.specs.FinMap as map
use Rattle.ax_pages.specs.AfterPart.{most_documents}
use Rattle.ax_pages.specs.TermPages.{AreApart}
use Rattle.ax_area.specs.Contents.{Contents, Stored, is_given}

pub record IsWellMade (contents : Contents) : Type 0 where
  -- the policy now, and that of each document, was given
  pub now : is_given contents.policy_now contents ≡ true
  pub given : (number : ℕ) (document : Stored)
      → map.get contents.documents number ≡ Some document
      → is_given document.policy contents ≡ true
  pub few : map.len contents.documents ≤ most_documents
  pub apart : AreApart contents.terms
