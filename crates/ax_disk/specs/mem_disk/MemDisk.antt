-- What a disk in memory shows: what was done to it and the history of that, its counts, and what it
-- may still do.
use Rattle.std.specs.Prelude.{◌≡◌, ◌⊎◌, ℕ, ◌+◌, ◌^◌, ◌<◌, ◌≤◌}
use Rattle.ax_disk.specs.declared.mem_disk.MemDisk.{MemDisk}
use Rattle.ax_disk.specs.model.Pending.{MayLeave}
use Rattle.ax_disk.specs.model.Moments.{History, IsCurrent}
use Rattle.ax_disk.specs.mem_disk.OperationLog.{OperationLog}
use Rattle.ax_disk.specs.mem_disk.OperationLogLaws.{history_is_current}
use Rattle.ax_disk.specs.mem_disk.LoggedLists.{log_of, lists_history, room_of, reads_may_stay}
use Rattle.ax_disk.specs.mem_disk.CallBudget.{CallBudget}

abbrev pub operation_log : MemDisk → OperationLog
operation_log disk = log_of disk.lists

abbrev pub disk_history : MemDisk → History
disk_history disk = lists_history disk.lists

abbrev pub disk_faults : MemDisk → ℕ
disk_faults disk = disk.faults

abbrev pub counted_reads : MemDisk → ℕ
counted_reads disk = disk.reads

abbrev pub call_budget : MemDisk → CallBudget
call_budget disk = disk.calls

-- so many bytes may still be written
abbrev pub disk_room : MemDisk → ℕ
disk_room disk = room_of disk.lists

-- A call remains, there is room for a write of so many bytes, and its end doesn't pass 2^62.
pub record HasRoomFor (at size : ℕ) (disk : MemDisk) : Type 0 where
  pub call : 0 < (call_budget disk).remaining
  pub room : size ≤ disk_room disk
  pub end : at + size ≤ 2 ^ 62

-- one of these is wanting
abbrev pub LacksRoomFor : ℕ → ℕ → MemDisk → Type 0
LacksRoomFor at size disk =
    ((call_budget disk).remaining ≡ 0) ⊎ (disk_room disk < size) ⊎ (2 ^ 62 < at + size)

-- an image as read is one of those that a crash now may leave
pub disk_reads_may_stay : (disk : MemDisk)
    → MayLeave (disk_history disk).unsynced (disk_history disk).reads
disk_reads_may_stay disk = reads_may_stay disk.lists

pub disk_is_current : (disk : MemDisk) → IsCurrent (disk_history disk)
disk_is_current disk = history_is_current (operation_log disk)
