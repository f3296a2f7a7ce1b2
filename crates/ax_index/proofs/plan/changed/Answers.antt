use Rattle.ax_index.proofs.CallLemmas.{merged_said}
use Rattle.ax_index.proofs.plan.changed.Goals as goal

pub returns-clause-made : goal.returns-clause-made
returns-clause-made c =
    merged_said c.args.pairs c.in_ok-after.after c.args.changes.now c.in-Some.delta _ c.in_ok-payload.payload.items c.in_ok-after.ensures
    c.in-Some.ensures.found
    c.in_ok-payload.ensures c.as_slice.ensures.value c.requires.changes
