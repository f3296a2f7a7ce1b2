-- What is left of the room is taken by what is left of the parts.
use Rattle.std.proofs.Common.{◌≡◌, drop}
use Rattle.ax_policy.specs.Composites.{parts_size}
use Rattle.ax_policy.specs.Limits.{left_by}
use Rattle.ax_policy.proofs.composites.left_by_parts.Given as goal

abbrev pub invariant-loop-part : goal.invariant-loop-part
invariant-loop-part l =
    left_by l.room (parts_size (drop l.part-index l.parts)) ≡ left_by l.fn.room (parts_size l.parts)
