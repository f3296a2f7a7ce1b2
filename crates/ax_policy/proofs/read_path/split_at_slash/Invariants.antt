-- No slash so far: the parts are those of what is left.
use Rattle.std.proofs.Common.{◌≡◌, ◌++◌, drop, take}
use Rattle.ax_policy.specs.Paths.{until_slash, from_slash}
use Rattle.ax_policy.proofs.read_path.split_at_slash.Given as goal

abbrev pub invariant-loop-at : goal.invariant-loop-at
invariant-loop-at l = record {
  until : take l.at l.bytes ++ until_slash (drop l.at l.bytes) ≡ until_slash l.bytes;
  from : from_slash (drop l.at l.bytes) ≡ from_slash l.bytes;
}
