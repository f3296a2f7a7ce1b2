-- Those read so far, before those of the items that are left, are all.
use Rattle.std.proofs.Common.{◌≡◌, drop}
use Rattle.ax_policy.specs.Reading.{read_all}
use Rattle.ax_policy.specs.Composites.{composite_of}
use Rattle.ax_policy.proofs.Lists.{joined}
use Rattle.ax_policy.proofs.composites.composites_of.Given as goal

abbrev pub invariant-loop-item : goal.invariant-loop-item
invariant-loop-item l =
    joined l.composites.items (read_all composite_of (drop l.item-index l.items)) ≡ read_all composite_of l.items
