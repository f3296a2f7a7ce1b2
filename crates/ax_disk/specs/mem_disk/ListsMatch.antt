-- What a disk in memory keeps true: its lists are what its operations made of the first ones, and
-- it has room for all that may still be written.
use Rattle.std.specs.Prelude.{◌≡◌, ℕ, ◌+◌, ◌≤◌}
use Rattle.ax_disk.specs.declared.lists.Lists.{Lists}
use Rattle.ax_disk.specs.declared.operation_list.OperationList.{OperationList}
use Rattle.ax_disk.specs.model.Image.{Image}
use Rattle.ax_disk.specs.model.Pending.{Unsynced, MayLeave}
use Rattle.ax_disk.specs.mem_disk.Lists.{image_of, least_capacity, greatest_length}
use Rattle.ax_disk.specs.mem_disk.OperationList.{spare_bytes}
use Rattle.ax_disk.specs.mem_disk.OperationLog.{State}

-- what the last sync that succeeded left
abbrev pub last_synced : Unsynced → Image
last_synced unsynced =
    record { root = unsynced.root.stable; a = unsynced.a.stable; b = unsynced.b.stable }

-- `current` is what reads give, `stable` what the last sync left, and a crash may leave either
pub record ListsMatch (state : State) (current stable : Image) : Type 0 where
  pub reads : state.reads ≡ current
  pub last_sync : last_synced state.unsynced ≡ stable
  pub may_keep : MayLeave state.unsynced current
  pub may_lose : MayLeave state.unsynced stable

-- `operations` are the lists' own, `limit` the greatest length of a list, `room` what may still be
-- written
pub record HasRoom (first current stable : Lists) (operations : OperationList)
    (limit room : ℕ) : Type 0 where
  pub first_room : limit ≤ least_capacity first
  pub current_room : limit ≤ least_capacity current
  pub stable_room : limit ≤ least_capacity stable
  pub current_length : greatest_length (image_of current) + room ≤ limit
  pub stable_length : greatest_length (image_of stable) + room ≤ limit
  pub bytes : room ≤ spare_bytes operations
