use Rattle.std.proofs.Common.{ap, ◌∙◌}
use Rattle.std.specs.Ordering.{is_gt}
use Rattle.ax_mean.specs.declared.value.Value.TheVariants.{Defined}
use Rattle.ax_group.proofs.Comparing.{above_is_below}
use Rattle.ax_group.proofs.scalar.is_above.Goals as goal

pub returns : goal.returns
returns c =
    c.is_gt.ensures ∙ ap is_gt c.compare_scalar.ensures
    ∙ above_is_below (Defined c.args.a.now) (Defined c.args.b.now)
