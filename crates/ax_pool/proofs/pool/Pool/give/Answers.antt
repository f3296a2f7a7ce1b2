use Rattle.std.proofs.Common.{false}
use Rattle.ax_pool.proofs.Counting.{all_add_up_set}
use Rattle.ax_pool.proofs.pool.Pool.give.Goals as goal

pub returns-clause-add_up : goal.returns-clause-add_up
returns-clause-add_up g c = all_add_up_set c.self.inside.frames.items c.self.inside.taken.items c.args.slot.number false c.self.invariant.1
