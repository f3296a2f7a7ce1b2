use Rattle.ax_excerpt_text.proofs.WholeLaws.{at_once}
use Rattle.ax_excerpt_text.proofs.whole.read_at_once.Goals as goal

pub returns-in-Some : goal.returns-in-Some
returns-in-Some c = at_once c.in-Some.scalar c.tree_of.result c.args.text.now c.in-Some.ensures.written c.tree_of.ensures
