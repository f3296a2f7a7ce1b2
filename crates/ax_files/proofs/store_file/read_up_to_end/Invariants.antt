use Rattle.std.proofs.Common.{◌≡◌, ◌≤◌, ◌-◌, length, take, drop, IsTrue}
use Rattle.ax_files.proofs.store_file.read_up_to_end.Given as goal

abbrev pub invariant-loop-filled : goal.invariant-loop-filled
invariant-loop-filled g l = record {
  within : l.filled ≤ length l.buf;
  same_len : length l.buf ≡ length l.fn.buf;
  told : IsTrue (g.F.SystemFile.is_honest l.fn.file) → take l.filled l.buf ≡ take l.filled (drop l.fn.at (g.F.SystemFile.content l.fn.file));
}

abbrev pub decreases-loop-filled : goal.decreases-loop-filled
decreases-loop-filled g l = length l.initial.buf - l.filled
