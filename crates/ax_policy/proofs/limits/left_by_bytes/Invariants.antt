-- What is left of the room is taken by what is left of the bytes.
use Rattle.std.proofs.Common.{◌≡◌, drop, sum_by}
use Rattle.ax_policy.specs.Limits.{left_by, byte_size}
use Rattle.ax_policy.proofs.limits.left_by_bytes.Given as goal

abbrev pub invariant-loop-byte : goal.invariant-loop-byte
invariant-loop-byte l =
    left_by l.room (sum_by byte_size (drop l.byte-index l.bytes))
    ≡ left_by l.fn.room (sum_by byte_size l.bytes)
