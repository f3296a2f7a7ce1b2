-- What a log keeps in memory: the root slot that counts, which names a version, an area and a generation, and the
-- offset of the closed gate in that area. It is this project's own; it comes from no public document.
use Rattle.std.specs.Prelude.{ℕ}
use Rattle.ax_disk.specs.declared.extent.Extent.{Extent}
use Rattle.ax_area.specs.declared.root.Counting.{Counting}
use Rattle.ax_log.specs.declared.log.Log.{Log}

abbrev pub log_slot : Log → Counting
log_slot log = log.slot

abbrev pub log_area : Log → Extent
log_area log = (log_slot log).area

abbrev pub log_generation : Log → ℕ
log_generation log = (log_slot log).generation

abbrev pub log_end : Log → ℕ
log_end log = log.end
