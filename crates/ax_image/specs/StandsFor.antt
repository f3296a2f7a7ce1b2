-- What an image of a store stands for: it is in the grammar of the format, whole, and its documents, in
-- the order of their numbers, are those of the container, each under the policy by which it is indexed there;
-- and the policy now is the container's. The image may be of any version that is known.
-- From the store's own file format (docs/FORMAT.md); no other document has it.
use Rattle.std.specs.Prelude.{◌≡◌, ℕ, List, [], ◌∷◌}
use Rattle.std.specs.FinMap as map
use Rattle.ax_disk.specs.model.Image.{Image}
use Rattle.ax_tree.specs.CanonicalText.{canonical_text}
use Rattle.ax_container.specs.Container.{Entry, Container, IsSound}
use Rattle.ax_area.specs.Contents.{Contents, Stored}
use Rattle.ax_area.specs.Told.{Told}
use Rattle.ax_image_grammar.specs.Grammar.{IsGrammatical}
use Rattle.ax_image_grammar.specs.Payloads.{IsTextOf}
use Rattle.ax_image_grammar.specs.Table.{policy_text}
use Rattle.ax_image.specs.Readable.{newest}

-- the document of a number shows an entry
pub record ShowsEntry (number : ℕ) (document : Stored) (entry : Entry) : Type 0 where
  pub number_is : number ≡ entry.number
  pub text_is : document.text ≡ canonical_text entry.tree

-- documents in the order of their numbers show the entries, one each
abbrev pub ShowEntries : List (ℕ × Stored) → List Entry → Type 0
ShowEntries [] [] = Unit {0}
ShowEntries [] (entry ∷ entries) = ⊥
ShowEntries (document ∷ documents) [] = ⊥
ShowEntries (document ∷ documents) (entry ∷ entries) =
    ShowsEntry document.0 document.1 entry × ShowEntries documents entries

-- The documents, in the order of their numbers, are under the policies by which the entries are indexed, one each.
-- A policy is the one whose text its number has now, wherever the document stands.
abbrev pub AreUnder : (ℕ → List ℕ) → List (ℕ × Stored) → List Entry → Type 0
AreUnder texts [] [] = Unit {0}
AreUnder texts [] (entry ∷ entries) = ⊥
AreUnder texts (document ∷ documents) [] = ⊥
AreUnder texts (document ∷ documents) (entry ∷ entries) =
    IsTextOf (texts document.1.policy) entry.indexed_by × AreUnder texts documents entries

-- the contents are what the container has
pub record ContentsShow (contents : Contents) (container : Container) : Type 0 where
  pub next : contents.next_number ≡ container.next_number
  pub shown : ShowEntries (map.entries contents.documents) container.entries
  pub under : AreUnder (λ number. policy_text number contents) (map.entries contents.documents) container.entries
  pub policy : IsTextOf (policy_text contents.policy_now contents) container.policy
  pub sound : IsSound container

-- Also what nothing holds any more can be read.
pub record StandsFor (image : Image) (container : Container) : Type 0 where
  -- the version of the image, up to the newest
  pub version : ℕ
  pub told : List Told
  pub contents : Contents
  pub grammatical : IsGrammatical newest version told contents image
  pub show : ContentsShow contents container
