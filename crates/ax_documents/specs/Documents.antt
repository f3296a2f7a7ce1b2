-- The documents of an open store with its index: which container they are those of, when they are at work, and what
-- their calls leave.
-- It is this project's own; it comes from no public document.
use Rattle.std.specs.Prelude.{◌≡◌, ℕ, List, Bool, false, Option, Some, None, Result, Ok, Err, IsTrue, option_map}
use Rattle.std.specs.FinMap as map
use Rattle.std.specs.Global.{Vec}
use Rattle.ax_area.specs.Contents.{Contents, Stored}
use Rattle.ax_cache.specs.Pages.{CachedPages}
use Rattle.ax_container.specs.Container.{Container}
use Rattle.ax_disk.specs.model.Moments.{History}
use Rattle.ax_store.specs.Slots.{HasAllFree}
use Rattle.ax_store.specs.Store.{Agrees, SameButCache, store_contents, store_failed}
use Rattle.ax_store.specs.declared.fault.StoreFault.{StoreFault}
use Rattle.ax_store.specs.declared.fault.StoreFault.TheVariants as store_fault
use Rattle.ax_table.specs.TableAgrees.{TableAgrees}
use Rattle.ax_write.specs.Writes.{FindsNone, HoldsAll, IsLookedUp}
use Rattle.ax_documents.specs.declared.documents.Documents.{Documents}

-- the documents are those of the container, and so is the index, and each id lately found stands under its number
abbrev pub DocumentsHold : {C : Type 0} → Documents C → Container → Type 0
DocumentsHold documents container = HoldsAll documents.store documents.ids container

-- The store has not failed, and agrees with the disk where that is honest; the table of policies agrees with the store;
-- and all slots are free.
pub record DocumentsWork {C : Type 0} (pages : C → CachedPages) (honest : Bool) (documents : Documents C) (history : History) : Type 0 where
  pub unfailed : store_failed documents.store ≡ false
  pub agrees : IsTrue honest → Agrees pages documents.store history
  pub table : TableAgrees honest documents.table (store_contents documents.store)
  pub free : HasAllFree documents.store

-- until the disk fails the documents work
abbrev pub WorkUnlessDisk : {C T : Type 0} → (C → CachedPages) → Bool → Result T StoreFault → Documents C → History → Type 0
WorkUnlessDisk pages honest (Ok value) documents history = DocumentsWork pages honest documents history
WorkUnlessDisk pages honest (Err store_fault.Disk) documents history = Unit {0}
WorkUnlessDisk pages honest (Err (store_fault.Damaged extent at)) documents history = DocumentsWork pages honest documents history
WorkUnlessDisk pages honest (Err (store_fault.Newer version)) documents history = DocumentsWork pages honest documents history
WorkUnlessDisk pages honest (Err store_fault.Memory) documents history = DocumentsWork pages honest documents history

-- the same documents over another cache
pub record SameDocuments {C E : Type 0} (old : Documents C) (new : Documents E) : Type 0 where
  pub store : SameButCache old.store new.store
  pub table : new.table ≡ old.table
  pub ids : new.ids ≡ old.ids

-- What READ has met that answers the text of a document, or that there is none: a number was told for the id, and the text is
-- that of a document under it; or none was told, or one under which no document is held.
abbrev pub IsReadOf : List (List ℕ × ℕ) → List ℕ → Contents → Option (Vec ℕ) → Type 0
IsReadOf ids id contents None = FindsNone ids id contents
IsReadOf ids id contents (Some text) = (number : ℕ) × IsLookedUp ids id contents (Some number)
    × (option_map (λ (document : Stored). document.text) (map.get contents.documents number) ≡ Some text.items)
