-- When a call of the index answers that the store is damaged: only where the payload of a part of a term page
-- is outside its grammar, and then with the place of that part.
-- It is this project's own; it comes from no public document.
use Rattle.std.specs.Prelude.{◌≡◌, ℕ, ◌<◌, ◌==◌, ◌&&◌, Bool, true, false, List, length, slice_get, Some, is_some, Result, Ok, Err}
use Rattle.ax_pair.specs.declared.pair.Pair.{Pair}
use Rattle.ax_delta.specs.Changes.{TermChange}
use Rattle.ax_delta.specs.Payload.{IsDelta}
use Rattle.ax_pages.specs.declared.page.Page.TheVariants.{Term}
use Rattle.ax_pages.specs.Contents.{TermPage, term_page, term_parts}
use Rattle.ax_pages.specs.Area.{extent_number}
use Rattle.ax_pairs.specs.PagePairs.{IsBase}
use Rattle.ax_store.specs.declared.store.Store.{Store}
use Rattle.ax_store.specs.declared.fault.StoreFault.{StoreFault}
use Rattle.ax_store.specs.declared.fault.StoreFault.TheVariants.{Disk, Damaged, Newer, Memory}
use Rattle.ax_store.specs.Kept.{offsets_of}
use Rattle.ax_store.specs.Slots.{term_part}
use Rattle.ax_store.specs.Store.{store_area, store_contents, store_offsets}

-- the part of that position is the base of its page
abbrev pub is_base_at : TermPage → ℕ → Bool
is_base_at page i = (i == 0) && is_some page.base

-- the payload is that of a base, or that of a delta
abbrev pub IsPayload : Bool → List ℕ → Type 0
IsPayload true payload = (pairs : List Pair) × IsBase payload pairs
IsPayload false payload = (changes : List TermChange) × IsDelta payload changes

-- the fault has the place of that part of a term page
abbrev pub IsPlacedAt : {C : Type 0} → Store C → ℕ → ℕ → StoreFault → Type 0
IsPlacedAt store page i Disk = ⊥
IsPlacedAt store page i (Damaged extent at) =
    (extent ≡ extent_number (store_area store)) × (slice_get (offsets_of (Term page) (store_offsets store)) i ≡ Some at)
IsPlacedAt store page i (Newer version) = ⊥
IsPlacedAt store page i Memory = ⊥

-- the fault is that of a part of a term page, whose payload is outside its grammar
pub record IsSpoiledPart {C : Type 0} (store : Store C) (fault : StoreFault) : Type 0 where
  pub page : ℕ
  pub i : ℕ
  pub there : i < length (term_parts (term_page page (store_contents store).terms))
  pub placed : IsPlacedAt store page i fault
  pub spoiled : IsPayload (is_base_at (term_page page (store_contents store).terms) i) (term_part page i (store_contents store).terms) → ⊥

-- the store fails by this fault: exactly where it is of the disk
abbrev pub FailsWith : StoreFault → Bool → Bool → Type 0
FailsWith Disk old new = new ≡ true
FailsWith (Damaged extent at) old new = new ≡ old
FailsWith (Newer version) old new = new ≡ old
FailsWith Memory old new = new ≡ old

abbrev pub FailsBy : {T : Type 0} → Result T StoreFault → Bool → Bool → Type 0
FailsBy (Ok value) old new = new ≡ old
FailsBy (Err fault) old new = FailsWith fault old new

-- what a fault says
abbrev pub TellsPart : {C : Type 0} → Store C → StoreFault → Type 0
TellsPart store Disk = Unit {0}
TellsPart store (Damaged extent at) = IsSpoiledPart store (Damaged extent at)
TellsPart store (Newer version) = ⊥
TellsPart store Memory = Unit {0}
