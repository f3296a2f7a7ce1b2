-- What a write puts into the index, in its one batch: little, whatever the store holds.
-- It is this project's own; it comes from no public document.
use Rattle.std.specs.Prelude.{◌≡◌, ℕ, Bool, List, [], Option, None, Some, IsTrue}
use Rattle.std.specs.FinMap as finite
use Rattle.ax_area.specs.Contents.{Contents, Stored}
use Rattle.ax_area.specs.Parts.{after_parts}
use Rattle.ax_delta.specs.declared.change.Change.{Change}
use Rattle.ax_frame.specs.Part.{PartValue}
use Rattle.ax_index.specs.Plans.{IsPlan}
use Rattle.ax_storable.specs.StoredTexts.{IsStoredText}
use Rattle.ax_policy.specs.Table.{Table}
use Rattle.ax_tree.specs.declared.tree.Tree.{Tree}
use Rattle.ax_write.specs.Batches.{creating_parts, deleting_parts, replacing_parts}
use Rattle.ax_write.specs.Exchanged.{IsExchanged}
use Rattle.ax_write.specs.Writes.{FindsNone, IsLookedUp}
use Rattle.ax_write.specs.declared.finding.FoundDocument.{FoundDocument}

-- parts that were committed behind those in front: a plan of the changes of the index
pub record IsPlanned (honest : Bool) (changes : List Change) (front : List PartValue) (before after : Contents) : Type 0 where
  pub merged : ℕ
  pub parts : List PartValue
  pub plan : IsPlan honest changes merged front parts before.terms
  pub committed : after_parts parts before ≡ Some after

-- the parts by which the document of a number is created, gets another tree, or is deleted
abbrev pub front_parts : ℕ → ℕ → Option Tree → Option Tree → List PartValue
front_parts number now None None = []
front_parts number now None (Some new) = creating_parts number now new
front_parts number now (Some old) (Some new) = replacing_parts number now new
front_parts number now (Some old) None = deleting_parts number

-- There was no document, and the number is the next one; or the document of the number was stored under that policy, and over
-- an honest disk its text was that of the tree.
abbrev pub IsWas : Bool → Contents → ℕ → ℕ → Option Tree → Type 0
IsWas honest before number policy None = (number ≡ before.next_number) × (finite.get before.documents number ≡ None)
IsWas honest before number policy (Some old) =
    (stored : Stored) × (finite.get before.documents number ≡ Some stored) × (policy ≡ stored.policy)
    × (IsTrue honest → IsStoredText stored.text old)

-- In one batch: in front exactly the parts of the document, and behind them a plan of exactly the changes by which
-- the pairs of the document as it was go out of the index and those of it as it is to be come in. The document is one of
-- which this holds, of its number and of the tree that was held under it.
pub record IsSmallBatch (Was : ℕ → Option Tree → Type 0) (honest : Bool) (table : Table) (new : Option Tree) (before after : Contents)
    : Type 0 where
  pub number : ℕ
  pub policy : ℕ
  pub old : Option Tree
  pub one : Was number old
  pub was : IsWas honest before number policy old
  pub changes : List Change
  pub exchanged : IsExchanged table number policy old table.current new changes
  pub planned : IsPlanned honest changes (front_parts number table.current old new) before after

-- ---- which document a write is of, by its number and the tree that was held under it

-- none was held, and the number is the next one
abbrev pub IsNew : Contents → ℕ → Option Tree → Type 0
IsNew contents number None = number ≡ contents.next_number
IsNew contents number (Some old) = ⊥

-- one was held, under a number that over an honest disk was told for the id
abbrev pub IsToldHeld : Bool → List (List ℕ × ℕ) → List ℕ → Contents → ℕ → Option Tree → Type 0
IsToldHeld honest ids id contents number None = ⊥
IsToldHeld honest ids id contents number (Some old) = IsTrue honest → IsLookedUp ids id contents (Some number)

-- none was found for the id, and the number is the next one; or one was held, under a number that was told for the id
abbrev pub IsNewOrTold : Bool → List (List ℕ × ℕ) → List ℕ → Contents → ℕ → Option Tree → Type 0
IsNewOrTold honest ids id contents number None = (number ≡ contents.next_number) × (IsTrue honest → FindsNone ids id contents)
IsNewOrTold honest ids id contents number (Some old) = IsToldHeld honest ids id contents number (Some old)

-- it is the one that was found
abbrev pub IsFound : FoundDocument → ℕ → Option Tree → Type 0
IsFound found number None = ⊥
IsFound found number (Some old) = (number ≡ found.number) × (old ≡ found.document.tree)
