use Rattle.std.proofs.Common.{length, ◌-◌, ◌≤◌, take}
use Rattle.std.specs.Io.KnownBytes.{Appends}
use Rattle.ax_base.proofs.sink.write_all.Given as goal

-- the bytes before `at` were added, and no fault was forgotten
abbrev pub invariant-loop-at : goal.invariant-loop-at
invariant-loop-at g l =
    let written = g.K.Sink.written in
    let faults = g.K.Sink.faults in
    record {
      within : l.at ≤ length l.bytes;
      added : Appends (written l.fn.sink) (written l.sink) (take l.at l.bytes);
      never_falls : faults l.fn.sink ≤ faults l.sink;
    }

abbrev pub decreases-loop-at : goal.decreases-loop-at
decreases-loop-at g l = length l.bytes - l.at
