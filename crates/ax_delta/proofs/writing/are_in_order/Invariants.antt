use Rattle.std.proofs.Common.{◌↔◌, drop}
use Rattle.ax_pair.specs.Order.{Rise, RiseAfter}
use Rattle.ax_delta.specs.Changes.{changed_pairs}
use Rattle.ax_delta.proofs.writing.are_in_order.Given as goal

abbrev pub invariant-loop-change : goal.invariant-loop-change
invariant-loop-change l =
    Rise (changed_pairs l.fn.changes) ↔ RiseAfter l.last (changed_pairs (drop l.change-index l.others))
