-- What is left decides the whole.
use Rattle.std.proofs.Common.{◌≡◌, drop}
use Rattle.std.specs.List.{list_any}
use Rattle.ax_policy.specs.Composites.{overlap}
use Rattle.ax_policy.proofs.composites.overlaps_any.Given as goal

abbrev pub invariant-loop-other : goal.invariant-loop-other
invariant-loop-other l =
    list_any (λ other. overlap l.part.path other.path) (drop l.other-index l.parts)
    ≡ list_any (λ other. overlap l.part.path other.path) l.parts
