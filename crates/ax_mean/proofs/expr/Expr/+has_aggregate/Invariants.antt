-- The parts that are left have an aggregate just where the whole has one, and are smaller than it.
use Rattle.std.proofs.Common.{◌≡◌, ◌<◌, map, sum}
use Rattle.std.specs.List.{list_any}
use Rattle.ax_mean.specs.Aggregates.{has_aggregate}
use Rattle.ax_mean.specs.Parts.{size}
use Rattle.ax_mean.proofs.expr.Expr.+has_aggregate.Given as goal

abbrev pub decreases-has_aggregate : goal.decreases-has_aggregate
decreases-has_aggregate l = size l.self.now

abbrev pub invariant-loop-part : goal.invariant-loop-part
invariant-loop-part l = record {
  can_next : (goal.iterator-loop-part).can_next l.part-iterator;
  is_finite : (goal.iterator-loop-part).is_finite l.part-iterator;
  smaller : sum (map size l.part-iterator) < size l.fn.self;
  same : list_any has_aggregate l.part-iterator ≡ has_aggregate l.fn.self;
}
