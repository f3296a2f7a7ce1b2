-- The document that is held under a number, read from its text; and when that text is none of a document.
-- It is this project's own; it comes from no public document.
use Rattle.std.specs.Prelude.{◌≡◌, ℕ, List, Option, Some, None}
use Rattle.std.specs.FinMap as map
use Rattle.ax_area.specs.Contents.{Stored}
use Rattle.ax_storable.specs.StoredTexts.{IsStoredText}
use Rattle.ax_pages.specs.Area.{extent_number}
use Rattle.ax_store.specs.Store.{store_area, store_contents, store_offsets}
use Rattle.ax_store.specs.declared.fault.StoreFault.{StoreFault}
use Rattle.ax_store.specs.declared.fault.StoreFault.TheVariants.{Disk, Damaged, Newer, Memory}
use Rattle.ax_store.specs.declared.store.Store.{Store}
use Rattle.ax_tree.specs.declared.tree.Tree.{Tree}
use Rattle.ax_write.specs.declared.held.HeldDocument.{HeldDocument}

-- it is what the contents have: the number of the policy, and the document of the text
pub record IsOf (stored : Stored) (text : List ℕ) (held : HeldDocument) : Type 0 where
  pub policy : held.policy ≡ stored.policy
  pub document : IsStoredText text held.tree

-- of a document that is held and a text
abbrev pub IsRead : Option Stored → List ℕ → Option HeldDocument → Type 0
IsRead (Some stored) text (Some held) = IsOf stored text held
IsRead (Some stored) text None = ⊥
IsRead None text found = ⊥

-- what is held was read, or nothing is held
abbrev pub IsHeld : Option Stored → Option HeldDocument → Type 0
IsHeld (Some stored) (Some held) = IsOf stored stored.text held
IsHeld (Some stored) None = ⊥
IsHeld None (Some held) = ⊥
IsHeld None None = Unit {0}

-- what is so over any disk
abbrev pub HasPolicyOf : Option Stored → Option HeldDocument → Type 0
HasPolicyOf (Some stored) (Some held) = held.policy ≡ stored.policy
HasPolicyOf (Some stored) None = ⊥
HasPolicyOf None (Some held) = ⊥
HasPolicyOf None None = Unit {0}

-- ---- faults

-- the fault has the place of the part of a document
abbrev pub IsPlaced : {C : Type 0} → Store C → ℕ → StoreFault → Type 0
IsPlaced store number Disk = ⊥
IsPlaced store number (Damaged extent at) =
    (extent ≡ extent_number (store_area store)) × (map.get (store_offsets store).documents number ≡ Some at)
IsPlaced store number (Newer version) = ⊥
IsPlaced store number Memory = ⊥

-- the text is that of no document that a store can hold
abbrev pub IsOfNone : List ℕ → Type 0
IsOfNone text = (tree : Tree) → IsStoredText text tree → ⊥

-- what a fault says where this is the text
abbrev pub TellsRead : {C : Type 0} → Store C → ℕ → List ℕ → StoreFault → Type 0
TellsRead store number text Disk = ⊥
TellsRead store number text (Damaged extent at) = IsPlaced store number (Damaged extent at) × IsOfNone text
TellsRead store number text (Newer version) = ⊥
TellsRead store number text Memory = Unit {0}

-- the text of the document that is held is that of none
abbrev pub HasNone : Option Stored → Type 0
HasNone (Some stored) = IsOfNone stored.text
HasNone None = ⊥

-- what a fault says
abbrev pub TellsText : {C : Type 0} → Store C → ℕ → StoreFault → Type 0
TellsText store number Disk = Unit {0}
TellsText store number (Damaged extent at) =
    IsPlaced store number (Damaged extent at) × HasNone (map.get (store_contents store).documents number)
TellsText store number (Newer version) = ⊥
TellsText store number Memory = Unit {0}
