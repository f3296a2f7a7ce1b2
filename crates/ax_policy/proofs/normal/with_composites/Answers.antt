use Rattle.ax_policy.proofs.normal.with_composites.Goals as goal

pub returns-in-Ok : goal.returns-in-Ok
returns-in-Ok c = rw c.in-Ok.ensures at c.with.ensures
