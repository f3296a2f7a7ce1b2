-- The same engine over another cache, which holds nothing yet.
use Rattle.std.proofs.Common.{◌≡◌, ℕ, Bool, List, sym, ap, ap₂, ◌∙◌}
use Rattle.std.specs.FinMap as map
use Rattle.ax_area.specs.Contents.{Contents}
use Rattle.ax_area_laws.specs.Risen.{risen}
use Rattle.ax_cache.specs.Pages.{CachedPages}
use Rattle.ax_container.specs.Container.{Container}
use Rattle.ax_disk.specs.model.Moments.{History}
use Rattle.ax_documents.proofs.Recaching.{hold_still, work_still}
use Rattle.ax_documents.specs.Documents.{SameDocuments}
use Rattle.ax_documents.specs.declared.documents.Documents.{Documents}
use Rattle.ax_policy.specs.Table.{Table}
use Rattle.ax_store.specs.Kept.{Kept}
use Rattle.ax_store.specs.Store.{store_contents}
use Rattle.ax_engine.specs.Course.{Standing, standing_of}
use Rattle.ax_engine.specs.Engine.{Holds, HoldsOver, Works}
use Rattle.ax_engine.specs.declared.engine.Engine.{Engine}

module _ {C E : Type 0} (old : Engine C) (new : Engine E) (fault : new.fault ≡ old.fault)
    (same : SameDocuments old.documents new.documents) where
  pub holds_still : (container : Container) → Holds old container → Holds new container
  holds_still container holds = record {
    unfaulted = fault ∙ holds.unfaulted;
    documents = hold_still old.documents new.documents container same holds.documents;
  }

  pub over_still : (history : History) (container : Container) → HoldsOver old history container → HoldsOver new history container
  over_still history container over = record { holds = holds_still container over.holds; readable = over.readable }

  pub works_still : (pages : C → CachedPages) (others : E → CachedPages) (honest : Bool) (history : History)
      → others new.documents.store.cache ≡ map.empty → Works pages honest old history → Works others honest new history
  works_still pages others honest history empty works = record {
    documents = λ none.
        work_still pages others honest old.documents new.documents history same empty (works.documents (sym fault ∙ none));
    no_sink = λ is. works.no_sink (sym fault ∙ is);
  }

-- it has what it had
pub standing_still : {C E : Type 0} (old : Documents C) (new : Documents E) → SameDocuments old new → standing_of new ≡ standing_of old
standing_still old new same =
    ap (λ (table : Table). of table new.ids (store_contents new.store)) same.table
    ∙ ap₂ (of old.table) same.ids (ap (λ (kept : Kept). risen kept.contents) same.store.pages)
  where
    of : Table → List (List ℕ × ℕ) → Contents → Standing
    of table ids contents = record { table = table; ids = ids; contents = contents }
