-- What an image says, where it has the documents of a container and the container can be changed: the
-- documents are shown, the policy now was given, and no two policies in use or now have one text.
-- From the store's own file format (docs/FORMAT.md, "Parts"); no other document has it.
use Rattle.std.specs.Prelude.{◌≡◌, ℕ, List, Some, true}
use Rattle.ax_disk.specs.model.Image.{Image}
use Rattle.ax_area.specs.Changes.{Change}
use Rattle.ax_area.specs.Contents.{Contents, after_changes, is_given}
use Rattle.ax_area.specs.Image.{Says}
use Rattle.ax_area.specs.Told.{Told}
use Rattle.ax_container.specs.Container.{Container}
use Rattle.ax_image_grammar.specs.Table.{AreApart}
use Rattle.ax_image.specs.Readable.{newest}
use Rattle.ax_image.specs.StandsFor.{ContentsShow}

-- the contents are what the container has, and its documents can be written
pub record ContentsHold (contents : Contents) (container : Container) : Type 0 where
  pub show : ContentsShow contents container
  pub given : is_given contents.policy_now contents ≡ true
  pub apart : AreApart contents

-- the changes lead from the contents to ones that hold the container
pub record LeadsTo (contents : Contents) (changes : List Change) (after : Container) : Type 0 where
  pub new : Contents
  pub lead : after_changes changes contents ≡ Some new
  pub hold : ContentsHold new after

-- the documents of the container are those of the image, each under its policy, and so is the policy now
pub record HasDocuments (container : Container) (image : Image) : Type 0 where
  pub version : ℕ
  pub told : List Told
  pub contents : Contents
  pub says : Says newest version told contents image
  pub hold : ContentsHold contents container
