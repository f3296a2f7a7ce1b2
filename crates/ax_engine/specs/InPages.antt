-- Where a text stands in the pages of a store that is none of a document: the contents that the pages say
-- have it, and the store's offsets its place. Damage says the same of images.
-- It is this project's own; it comes from no public document.
use Rattle.std.specs.Prelude.{◌≡◌, ℕ, Some}
use Rattle.std.specs.FinMap as map
use Rattle.ax_area.specs.Contents.{Stored}
use Rattle.ax_image.specs.Readable.{newest}
use Rattle.ax_image_grammar.specs.Payloads.{IsDocumentText}
use Rattle.ax_pages.specs.Area.{extent_number}
use Rattle.ax_store.specs.Kept.{Kept}
use Rattle.ax_store.specs.Store.{store_area, store_offsets}
use Rattle.ax_store.specs.declared.fault.StoreFault.{StoreFault}
use Rattle.ax_store.specs.declared.fault.StoreFault.TheVariants as store_fault
use Rattle.ax_store.specs.declared.store.Store.{Store}
use Rattle.ax_engine.specs.StoreSays.{kept_says}

-- The part of a document that counts stands at the offset, and its text is outside the grammar of the
-- format: it is none of a document.
pub record HasOutside (pages : Kept) (at : ℕ) : Type 0 where
  pub number : ℕ
  pub document : Stored
  pub held : map.get (kept_says pages).documents number ≡ Some document
  pub placed : map.get pages.offsets.documents number ≡ Some at
  pub outside : ¬ IsDocumentText newest document.text

-- the same of a store's pages, at an offset of the area that counts
abbrev pub IsOutsideAt : {C : Type 0} → Store C → ℕ → ℕ → Type 0
IsOutsideAt store extent at = (extent ≡ extent_number (store_area store)) × HasOutside store.pages at

-- the fault has the place of the part of a document
abbrev pub IsPlaced : {C : Type 0} → Store C → ℕ → StoreFault → Type 0
IsPlaced store number store_fault.Disk = ⊥
IsPlaced store number (store_fault.Damaged extent at) =
    (extent ≡ extent_number (store_area store)) × (map.get (store_offsets store).documents number ≡ Some at)
IsPlaced store number (store_fault.Newer version) = ⊥
IsPlaced store number store_fault.Memory = ⊥
