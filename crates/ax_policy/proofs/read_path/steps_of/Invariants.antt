-- The steps so far, before those that are read of the rest, are the whole.
use Rattle.std.proofs.Common.{◌≡◌, ◌-◌, length}
use Rattle.std.specs.Str.{IsUtf8}
use Rattle.ax_policy.specs.Paths as spec
use Rattle.ax_policy.proofs.PathReading.{behind}
use Rattle.ax_policy.proofs.read_path.steps_of.Given as goal

abbrev pub invariant-loop-turn : goal.invariant-loop-turn
invariant-loop-turn l = record {
  utf8 : IsUtf8 l.rest;
  made : behind l.steps.items (spec.steps_in (length l.text - l._turn) l.rest)
      ≡ spec.steps_in (length l.text) l.text;
}
