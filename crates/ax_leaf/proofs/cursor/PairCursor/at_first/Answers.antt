use Rattle.ax_leaf.proofs.Going.{spells_list}
use Rattle.ax_leaf.proofs.cursor.PairCursor.at_first.Goals as goal

pub invariant_of-result : goal.invariant_of-result
invariant_of-result c = spells_list c.new.result.items c.args.list.now c.args.count c.new.ensures.items c.requires
