use Rattle.std.proofs.Common.{sym, true}
use Rattle.ax_pool.proofs.Counting.{all_add_up, all_add_up_set}
use Rattle.ax_pool.proofs.pool.Pool.take.Goals as goal

pub returns-in_err-number-clause-add_up : goal.returns-in_err-number-clause-add_up
returns-in_err-number-clause-add_up g c = rw (sym c.self.view_is) (all_add_up c.self.inside.frames.items c.self.inside.taken.items c.self.invariant.1)

pub returns-clause-add_up : goal.returns-clause-add_up
returns-clause-add_up g c = all_add_up_set c.self.inside.frames.items c.self.inside.taken.items c.in_ok-number.number true c.self.invariant.1
