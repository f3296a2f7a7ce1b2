-- What an image of a store stands for: it is in the grammar, its contents are what the container
-- has, and its term pages are the index of that. From the store's own file format (docs/FORMAT.md);
-- no other document has it.
use Rattle.std.specs.Prelude.{◌≡◌, ℕ, List, [], ◌∷◌, Some}
use Rattle.std.specs.FinMap as map
use Rattle.ax_disk.specs.model.Image.{Image}
use Rattle.ax_tree.specs.CanonicalText.{canonical_text}
use Rattle.ax_tree.specs.Document.{document_id}
use Rattle.ax_tree.specs.WellFormed.{IsWellFormed}
use Rattle.ax_pairs.specs.PairSets.{PairSet}
use Rattle.ax_pairs.specs.Index.{IsIndex}
use Rattle.ax_area.specs.Contents.{Contents, Stored}
use Rattle.ax_area.specs.Told.{Told}
use Rattle.ax_image_grammar.specs.Container.{Entry, Container, IsSound}
use Rattle.ax_image_grammar.specs.Grammar.{IsGrammatical}
use Rattle.ax_image_grammar.specs.Payloads.{IsTextOf}
use Rattle.ax_image_grammar.specs.Table.{policy_text}

-- the document of a number shows an entry
pub record IsShown (contents : Contents) (number : ℕ) (document : Stored)
    (entry : Entry) : Type 0 where
  pub number_is : number ≡ entry.number
  pub version_is : document.version ≡ entry.version
  pub text_is : document.text ≡ canonical_text entry.tree
  pub well_formed : IsWellFormed entry.tree
  pub own_id : document_id entry.tree ≡ Some entry.id
  -- by the text that the number has at the end, not where the document stands
  pub indexed_by : IsTextOf (policy_text document.policy contents) entry.indexed_by

-- documents in the order of their numbers show the entries, one each
abbrev pub AreShown : Contents → List (ℕ × Stored) → List Entry → Type 0
AreShown contents [] [] = Unit {0}
AreShown contents [] (entry ∷ entries) = ⊥
AreShown contents (document ∷ documents) [] = ⊥
AreShown contents (document ∷ documents) (entry ∷ entries) =
    IsShown contents document.0 document.1 entry × AreShown contents documents entries

pub record ContentsStandFor (contents : Contents) (container : Container) : Type 0 where
  pub next_number : contents.next_number ≡ container.next_number
  pub next_version : contents.next_version ≡ container.next_version
  pub now : IsTextOf (policy_text contents.policy_now contents) container.policy_now
  pub shown : AreShown contents (map.entries contents.documents) container.entries
  pub sound : IsSound container

-- `pairs` gives the pairs that the index of a container has.
pub record StandsFor (newest : ℕ) (pairs : Container → PairSet) (image : Image)
    (container : Container) : Type 0 where
  pub version : ℕ
  pub told : List Told
  pub contents : Contents
  pub grammatical : IsGrammatical newest version told contents image
  pub stand : ContentsStandFor contents container
  pub index : IsIndex contents.terms (pairs container)
