use Rattle.ax_skim.proofs.BitPrefix.{prefix}
use Rattle.ax_skim.proofs.blocks.prefix_xor.Goals as goal

pub returns : goal.returns
returns c = prefix c.args.x
