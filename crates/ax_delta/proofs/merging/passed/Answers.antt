use Rattle.std.proofs.Common.{refl}
use Rattle.ax_delta.specs.View.{changes_left}
use Rattle.ax_delta.proofs.Placing.{all_made}
use Rattle.ax_delta.proofs.merging.passed.Goals as goal

pub returns-clause-made : goal.returns-clause-made
returns-clause-made c =
    all_made c.loop-after.after _ (changes_left c.loop-after.changes) c.loop-after.at (c.loop-after-test.ensures.0 refl) c.loop-after.invariant.made
