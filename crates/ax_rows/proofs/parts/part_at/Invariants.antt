-- The steps that are left lead from the part so far to where all lead from the tree.
use Rattle.std.proofs.Common.{◌≡◌, drop}
use Rattle.ax_mean.specs.declared.value.Value.TheVariants.{Defined}
use Rattle.ax_mean.specs.Steps.{steps_from}
use Rattle.ax_rows.proofs.parts.part_at.Given as goal

abbrev pub invariant-loop-step : goal.invariant-loop-step
invariant-loop-step l =
    steps_from (Defined l.part) (drop l.step-index l.step-items)
    ≡ steps_from (Defined l.tree) l.step-items
