use Rattle.ax_files.proofs.Attaching.{attached_that}
use Rattle.ax_files.proofs.counted_files.CountedFilesDisk.attach.Goals as goal

pub returns-clause-sound : goal.returns-clause-sound
returns-clause-sound g c = attached_that _ _ _ _ c.keep.ensures.attached c.open_files-opened.ensures.sound
