use Rattle.ax_delta.proofs.Ascending.{merged_is}
use Rattle.ax_delta.proofs.merging.merge.Goals as goal

pub returns : goal.returns
returns c = merged_is c.args.pairs c.in_ok-after.after c.args.delta.now c.requires c.in_ok-after.ensures.are c.in_ok-after.ensures.made
