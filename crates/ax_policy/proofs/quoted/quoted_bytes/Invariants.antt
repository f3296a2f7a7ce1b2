-- The name so far, before what is read of the rest, is the whole.
use Rattle.std.proofs.Common.{◌≡◌, length, false}
use Rattle.ax_policy.specs.Paths.{quoted}
use Rattle.ax_policy.proofs.PathReading.{before}
use Rattle.ax_policy.proofs.quoted.quoted_bytes.Given as goal

abbrev pub invariant-loop-byte : goal.invariant-loop-byte
invariant-loop-byte l =
    before l.name.items (quoted l.escaping l.rest) ≡ quoted false l.bytes

abbrev pub decreases-loop-byte : goal.decreases-loop-byte
decreases-loop-byte l = length l.rest
