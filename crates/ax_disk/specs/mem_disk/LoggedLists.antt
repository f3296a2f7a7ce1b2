-- What logged lists show: what was done to them with the history of that, and how much they may
-- still take.
use Rattle.std.specs.Prelude.{ℕ}
use Rattle.std.proofs.Common.{subst, sym}
use Rattle.ax_disk.specs.declared.logged_lists.LoggedLists.{LoggedLists}
use Rattle.ax_disk.specs.model.Image.{Image}
use Rattle.ax_disk.specs.model.Pending.{MayLeave}
use Rattle.ax_disk.specs.model.Moments.{History}
use Rattle.ax_disk.specs.mem_disk.Lists.{image_of}
use Rattle.ax_disk.specs.mem_disk.OperationList.{operations_in, spare_operations}
use Rattle.ax_disk.specs.mem_disk.OperationLog.{OperationLog, history_of}

abbrev pub log_of : LoggedLists → OperationLog
log_of logged =
    record { first = image_of logged.first; operations = operations_in logged.operations }

abbrev pub lists_history : LoggedLists → History
lists_history logged = history_of (log_of logged)

-- so many bytes may still be written
abbrev pub room_of : LoggedLists → ℕ
room_of logged = logged.room

-- so many operations may still be kept
abbrev pub operation_room_of : LoggedLists → ℕ
operation_room_of logged = spare_operations logged.operations

-- an image as read is one of those that a crash now may leave
pub reads_may_stay : (logged : LoggedLists)
    → MayLeave (lists_history logged).unsynced (lists_history logged).reads
reads_may_stay logged =
    subst (λ (image : Image). MayLeave (lists_history logged).unsynced image)
    (sym logged.matching.reads) logged.matching.may_keep
