-- What was asked for so far, with what the parts that are left ask for, is all; and the parts are smaller
-- than the whole.
use Rattle.std.proofs.Common.{◌≡◌, ◌<◌, ◌+◌, ◌*◌, ◌++◌, map, sum}
use Rattle.ax_mean.specs.Parts.{parts_of, size}
use Rattle.ax_group.specs.Walks.{asks_of, asked_pair, all_asked}
use Rattle.ax_group.proofs.asked.+collect.Given as goal

abbrev pub decreases-collect : goal.decreases-collect
decreases-collect l = 3 * size l.expr.now + 2

abbrev pub decreases-collect_within : goal.decreases-collect_within
decreases-collect_within l = 3 * size l.expr.now + 1

abbrev pub decreases-collect_parts : goal.decreases-collect_parts
decreases-collect_parts l = 3 * size l.expr.now

abbrev pub invariant-collect_parts-loop-part : goal.invariant-collect_parts-loop-part
invariant-collect_parts-loop-part l = record {
  can_next : (goal.iterator-collect_parts-loop-part).can_next l.part-iterator;
  is_finite : (goal.iterator-collect_parts-loop-part).is_finite l.part-iterator;
  smaller : sum (map size l.part-iterator) < size l.fn.expr;
  same : asks_of l.asked.items ++ all_asked (map asked_pair l.part-iterator)
      ≡ asks_of l.initial.asked.items ++ all_asked (map asked_pair (parts_of l.fn.expr));
}
