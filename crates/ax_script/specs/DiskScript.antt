-- What a run of the program left on its disk, beside what it took and wrote: at each moment, and at the
-- end, an image stands for the container after some of the lines of the same run.
use Rattle.std.specs.Prelude.{◌≡◌, ℕ, suc, ◌≤◌, List, [], ◌++◌, ◌⊎◌, length, take}
use Rattle.std.specs.List.{concat}
use Rattle.ax_disk.specs.model.Image.{Image}
use Rattle.ax_disk.specs.model.Pending.{MayLeave}
use Rattle.ax_disk.specs.model.Moments.{History, Progresses}
use Rattle.ax_disk.specs.model.Stays.{Rests, BarrierStage}
use Rattle.ax_container.specs.Container.{Container}
use Rattle.ax_image_pairs.specs.Indexed.{StandsForAll}
use Rattle.ax_machine.specs.Run.{Exchange, after_lines, texts}
use Rattle.ax_script.specs.Script.{Runs}
use Rattle.ax_script.specs.Streams.{Streams}
use Rattle.ax_script.specs.declared.status.Status.{Status}

-- the image stands for the container after so many lines of the run, or after one more
abbrev pub StandsAfter : Container → List Exchange → ℕ → Image → Type 0
StandsAfter before run count image =
    StandsForAll image (after_lines count before run)
    ⊎ StandsForAll image (after_lines (suc count) before run)

-- the first so many lines of the run are acknowledged: their replies are whole in the text
pub record AreAcknowledged (count : ℕ) (before : Container) (run : List Exchange)
    (text : List ℕ) : Type 0 where
  pub within : count ≤ length run
  pub rest : List ℕ
  pub written : text ≡ concat (take count (texts before run)) ++ rest

-- the image stands for the container after a prefix of the lines that has every acknowledged line
pub record KeepsAcknowledged (before : Container) (run : List Exchange) (text : List ℕ)
    (image : Image) : Type 0 where
  pub count : ℕ
  pub within : count ≤ length run
  pub stands : StandsForAll image (after_lines count before run)
  pub acknowledged : (lines : ℕ) → AreAcknowledged lines before run text → lines ≤ count

-- Opening begins with a sync, the barrier. Until it has succeeded a crash leaves what it might have
-- left before the run. From then on each moment has a count of lines that never falls, and a crash
-- leaves the container after so many lines or after one more. At the end a crash loses no acknowledged
-- line.
pub record RunsOnDisk (before : Container) (ended : Status) (old new : Streams)
    (entry exit : History) : Type 0 where
  pub script : Runs before ended old new
  pub moments : Progresses entry exit 0 (suc (length script.run))
      (BarrierStage entry.unsynced (StandsAfter before script.run))
  pub at_exit : Rests exit (KeepsAcknowledged before script.run script.text)
      ⊎ ((script.text ≡ []) × Rests exit (MayLeave entry.unsynced))
