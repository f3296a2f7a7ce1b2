-- What a `DeadDisk` shows: how many calls it has failed. It tells of no list, so no clause reads
-- what it has instead of a history.
use Rattle.std.specs.Prelude.{ℕ, []}
use Rattle.ax_disk.specs.declared.dead_disk.DeadDisk.{DeadDisk}
use Rattle.ax_disk.specs.model.Image.{Image}
use Rattle.ax_disk.specs.model.Pending.{all_settled}
use Rattle.ax_disk.specs.model.Moments.{History}

abbrev pub dead_faults : DeadDisk → ℕ
dead_faults disk = disk.faults

abbrev pub no_image : Image
no_image = record { root = []; a = []; b = [] }

abbrev pub nothing_told : History
nothing_told =
    record { reads = no_image; unsynced = all_settled no_image; moment = 0; left_at = λ _ _. ⊥ }
