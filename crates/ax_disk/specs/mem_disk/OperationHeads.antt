-- The operations whose heads stand in one list and the bytes of whose writes in another, one write
-- after another.
use Rattle.std.specs.Prelude.{ℕ, ◌+◌, List, [], ◌∷◌, take, drop}
use Rattle.ax_disk.specs.declared.operation_head.OperationHead.{OperationHead}
use Rattle.ax_disk.specs.declared.operation_head.OperationHead.TheVariants.{Wrote, Cut, Synced}
use Rattle.ax_disk.specs.mem_disk.OperationLog.{Operation, wrote, cut, synced}

-- how many bytes the writes have
abbrev pub written_size : List OperationHead → ℕ
written_size [] = 0
written_size (Wrote ext at size done ∷ heads) = done + written_size heads
written_size (Cut ext len done ∷ heads) = written_size heads
written_size (Synced ∷ heads) = written_size heads

abbrev pub operations_of : List OperationHead → List ℕ → List Operation
operations_of [] bytes = []
operations_of (Wrote ext at size done ∷ heads) bytes =
    wrote ext at size (take done bytes) ∷ operations_of heads (drop done bytes)
operations_of (Cut ext len done ∷ heads) bytes = cut ext len done ∷ operations_of heads bytes
operations_of (Synced ∷ heads) bytes = synced ∷ operations_of heads bytes
