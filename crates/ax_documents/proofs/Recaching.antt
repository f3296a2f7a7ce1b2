-- The same documents over another cache, which holds nothing yet.
use Rattle.std.proofs.Common.{◌≡◌, Bool, false, sym, subst, ◌∙◌}
use Rattle.std.specs.Prelude.{replicate}
use Rattle.std.specs.FinMap as map
use Rattle.std.specs.List.{Contains}
use Rattle.ax_area_laws.specs.Risen.{risen}
use Rattle.ax_cache.specs.Pages.{CachedPages}
use Rattle.ax_container.specs.Container.{Container}
use Rattle.ax_disk.specs.model.Moments.{History}
use Rattle.ax_image_pairs.specs.Indexed.{ContentsHoldAll}
use Rattle.ax_policy.specs.Table.{Table}
use Rattle.ax_pool.specs.Frames.{Frames}
use Rattle.ax_store.specs.Kept.{Kept}
use Rattle.ax_store.specs.Slots.{slot_count}
use Rattle.ax_store.proofs.StoreLemmas.{agrees_recached}
use Rattle.ax_table.specs.TableAgrees.{TableAgrees}
use Rattle.ax_documents.specs.Documents.{DocumentsHold, DocumentsWork, SameDocuments}
use Rattle.ax_documents.specs.declared.documents.Documents.{Documents}

-- they are those of the same container
pub hold_still : {C E : Type 0} (old : Documents C) (new : Documents E) (container : Container) → SameDocuments old new
    → DocumentsHold old container → DocumentsHold new container
hold_still old new container same holds = record {
  contents = subst (λ (kept : Kept). ContentsHoldAll (risen kept.contents) container) (sym same.store.pages) holds.contents;
  recent = λ id number is. holds.recent id number (subst (λ ids. Contains ids (id, number)) same.ids is);
}

-- and agree with the same disk
pub work_still : {C E : Type 0} (pages : C → CachedPages) (others : E → CachedPages) (honest : Bool) (old : Documents C)
    (new : Documents E) (history : History) → SameDocuments old new → others new.store.cache ≡ map.empty
    → DocumentsWork pages honest old history → DocumentsWork others honest new history
work_still pages others honest old new history same empty works = record {
  unfailed = same.store.failed ∙ works.unfailed;
  agrees = λ h. agrees_recached pages others old.store new.store history same.store empty (works.agrees h);
  table =
      subst (λ (kept : Kept). TableAgrees honest new.table (risen kept.contents)) (sym same.store.pages)
      (subst (λ (table : Table). TableAgrees honest table (risen old.store.pages.contents)) (sym same.table) works.table);
  free = subst (λ (slots : Frames). slots.taken ≡ replicate slot_count false) (sym same.store.slots) works.free;
}
