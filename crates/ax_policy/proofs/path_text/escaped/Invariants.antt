-- The bytes so far, and those of what is left.
use Rattle.std.proofs.Common.{◌≡◌, ◌++◌, drop}
use Rattle.ax_policy.specs.Paths as spec
use Rattle.ax_policy.proofs.path_text.escaped.Given as goal

abbrev pub invariant-loop-byte : goal.invariant-loop-byte
invariant-loop-byte l =
    l.bytes.items ++ spec.escaped (drop l.byte-index l.byte-items) ≡ spec.escaped l.byte-items
