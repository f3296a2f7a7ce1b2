-- What was done to three lists since they were last known, and the history that follows from it.
use Rattle.std.specs.Prelude.{ℕ, Bool, if◌then◌else◌, List, [], ◌∷◌, ◌++◌, length, take}
use Rattle.ax_disk.specs.declared.extent.Extent.{Extent}
use Rattle.ax_disk.specs.model.Image.{Image, list_of, with_list}
use Rattle.ax_disk.specs.model.Pending.{Unsynced, MayLeave, all_settled, after_write, after_cut}
use Rattle.ax_disk.specs.model.Moments.{History}
use Rattle.ax_disk.specs.model.Calls.{overwritten}

-- a write, a cut or a sync that was done, also one that failed
pub data Operation : Type 0 where
  -- a write of so many bytes at an offset, of which these came to be read
  wrote : Extent → ℕ → ℕ → List ℕ → Operation
  -- a cut to a length, and whether it came to be read
  cut : Extent → ℕ → Bool → Operation
  synced : Operation

-- what reads give, and what is pending
pub record State : Type 0 where
  pub reads : Image
  pub unsynced : Unsynced

-- three lists that are all synced
abbrev pub synced_state : Image → State
synced_state image = record { reads = image; unsynced = all_settled image }

abbrev pub after_operation : Operation → State → State
after_operation (wrote ext at size bytes) state = record {
  reads = with_list ext (overwritten (list_of ext state.reads) at bytes) state.reads;
  unsynced = after_write ext at size state.unsynced;
}
after_operation (cut ext len done) state = record {
  reads =
      if done then with_list ext (take len (list_of ext state.reads)) state.reads else state.reads;
  unsynced = after_cut ext len state.unsynced;
}
after_operation synced state = synced_state state.reads

-- after these operations, the oldest first
abbrev pub after_operations : State → List Operation → State
after_operations state [] = state
after_operations state (operation ∷ operations) =
    after_operations (after_operation operation state) operations

-- what was done to lists that were all synced at first, the oldest operation first
pub record OperationLog : Type 0 where
  pub first : Image
  pub operations : List Operation

abbrev pub new_log : Image → OperationLog
new_log image = record { first = image; operations = [] }

abbrev pub with_operation : Operation → OperationLog → OperationLog
with_operation operation log = record log { operations = log.operations ++ operation ∷ [] }

-- what it has led to
abbrev pub state_of : OperationLog → State
state_of log = after_operations (synced_state log.first) log.operations

-- what it had led to after the first t operations
abbrev pub state_at : ℕ → OperationLog → State
state_at t log = after_operations (synced_state log.first) (take t log.operations)

-- The history of a log. There is a moment before the first operation, and one after each.
abbrev pub history_of : OperationLog → History
history_of log = record {
  reads = (state_of log).reads;
  unsynced = (state_of log).unsynced;
  moment = length log.operations;
  left_at = λ t image. MayLeave (state_at t log).unsynced image;
}
