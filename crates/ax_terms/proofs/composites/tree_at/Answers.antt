use Rattle.ax_mean.specs.declared.value.Value.TheVariants.{Defined}
use Rattle.std.proofs.Common.{ap, ◌∙◌}
use Rattle.ax_mean.specs.Rows.{along_path}
use Rattle.ax_terms.proofs.Nowhere.{path_ends_nowhere}
use Rattle.ax_terms.proofs.composites.tree_at.Goals as goal

pub returns-in_default : goal.returns-in_default
returns-in_default c =
    path_ends_nowhere (Defined c.loop-step.part.now) _ c.as_slice-step-items.result.now
    c.step-item.result c.loop-step.step-index c.loop-step-test.true c.step-item.is
    (c.loop-step.invariant ∙ ap (along_path (Defined c.args.tree.now)) c.as_slice-step-items.ensures)
    c.in_default.ensures
