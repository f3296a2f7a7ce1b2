-- A store of which the index may be asked, and whose index may be changed.
-- It is this project's own; it comes from no public document.
use Rattle.std.specs.Prelude.{◌≤◌, Bool}
use Rattle.ax_cache.specs.Pages.{CachedPages}
use Rattle.ax_disk.specs.model.Moments.{History}
use Rattle.ax_pool.specs.Frames.{free_count}
use Rattle.ax_store.specs.declared.store.Store.{Store}
use Rattle.ax_store.specs.Store.{AgreesUnlessFailed, store_slots}

-- The store agrees with an honest disk unless it has failed, and has two free slots.
pub record IsReady {C : Type 0} (pages : C → CachedPages) (store : Store C) (honest : Bool) (history : History) : Type 0 where
  pub agrees : AgreesUnlessFailed pages honest store history
  pub free : 2 ≤ free_count (store_slots store)
