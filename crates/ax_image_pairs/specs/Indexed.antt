-- What an image of a store stands for where its index counts: it is in the grammar, whole; it has the
-- documents of the container; and its term pages hold exactly the pairs of the container.
-- From the store's own file format (docs/FORMAT.md); no other document has it.
use Rattle.std.specs.Prelude.{◌≡◌, ◌↔◌, ℕ, List, Some, true}
use Rattle.ax_disk.specs.model.Image.{Image}
use Rattle.ax_area.specs.Changes.{Change}
use Rattle.ax_area.specs.Contents.{Contents, after_changes}
use Rattle.ax_area.specs.Image.{Says}
use Rattle.ax_area.specs.Told.{Told}
use Rattle.ax_container.specs.Container.{Container}
use Rattle.ax_image.specs.Documents.{ContentsHold}
use Rattle.ax_image.specs.Readable.{newest}
use Rattle.ax_image_grammar.specs.Grammar.{IsGrammatical}
use Rattle.ax_image_pairs.specs.Pairs.{HasPair}
use Rattle.ax_pages.specs.Contents.{TermPage}
use Rattle.ax_pair.specs.declared.pair.Pair.{Pair}
use Rattle.ax_pairs.specs.Index.{IsIndex}
use Rattle.ax_pairs.specs.PairSets.{PairSet}

-- the term pages hold the pairs of the container, and no others
pub record HoldPairs (pages : List TermPage) (container : Container) : Type 0 where
  pub set : PairSet
  pub is : IsIndex pages set
  pub exact : (pair : Pair) → (set pair ≡ true) ↔ HasPair container pair

-- the contents are what the container has, with its index
pub record ContentsHoldAll (contents : Contents) (container : Container) : Type 0 where
  pub documents : ContentsHold contents container
  pub pairs : HoldPairs contents.terms container

-- the changes lead from the contents to ones that hold the container, with its index
pub record LeadsToAll (contents : Contents) (changes : List Change) (after : Container) : Type 0 where
  pub new : Contents
  pub lead : after_changes changes contents ≡ Some new
  pub hold : ContentsHoldAll new after

-- the documents of the image are those of the container, and so is its index
pub record HasAll (container : Container) (image : Image) : Type 0 where
  pub version : ℕ
  pub told : List Told
  pub contents : Contents
  pub says : Says newest version told contents image
  pub hold : ContentsHoldAll contents container

-- Also what nothing holds any more can be read.
pub record StandsForAll (image : Image) (container : Container) : Type 0 where
  pub version : ℕ
  pub told : List Told
  pub contents : Contents
  pub grammatical : IsGrammatical newest version told contents image
  pub hold : ContentsHoldAll contents container
