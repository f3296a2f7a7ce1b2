-- The steps that are left lead from the part so far to where all lead from the tree.
use Rattle.std.proofs.Common.{◌≡◌, drop}
use Rattle.ax_mean.specs.declared.value.Value.TheVariants.{Defined}
use Rattle.ax_mean.specs.Rows.{along_path}
use Rattle.ax_terms.proofs.composites.tree_at.Given as goal

abbrev pub invariant-loop-step : goal.invariant-loop-step
invariant-loop-step l =
    along_path (Defined l.part) (drop l.step-index l.step-items)
    ≡ along_path (Defined l.tree) l.step-items
