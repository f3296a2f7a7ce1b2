-- What a list of operations shows: the operations, and the room for more.
use Rattle.std.specs.Prelude.{ℕ, ◌-◌, List, vec_len, vec_capacity}
use Rattle.ax_disk.specs.declared.operation_list.OperationList.{OperationList}
use Rattle.ax_disk.specs.mem_disk.OperationHeads.{operations_of}
use Rattle.ax_disk.specs.mem_disk.OperationLog.{Operation}

abbrev pub operations_in : OperationList → List Operation
operations_in log = operations_of log.operations.items log.bytes.items

-- room for so many operations more
abbrev pub spare_operations : OperationList → ℕ
spare_operations log = vec_capacity log.operations - vec_len log.operations

-- room for so many bytes of writes more
abbrev pub spare_bytes : OperationList → ℕ
spare_bytes log = vec_capacity log.bytes - vec_len log.bytes
