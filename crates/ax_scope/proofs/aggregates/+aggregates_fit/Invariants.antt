-- The parts that are left fit just where the whole does, and are smaller than it.
use Rattle.std.proofs.Common.{◌≡◌, ◌<◌, map, sum}
use Rattle.std.specs.List.{list_all}
use Rattle.ax_mean.specs.Parts.{size}
use Rattle.ax_grammar.specs.Parts.{aggregates_fit}
use Rattle.ax_scope.proofs.aggregates.+aggregates_fit.Given as goal

abbrev pub decreases-aggregates_fit : goal.decreases-aggregates_fit
decreases-aggregates_fit l = size l.expr.now

abbrev pub invariant-loop-part : goal.invariant-loop-part
invariant-loop-part l = record {
  can_next : (goal.iterator-loop-part).can_next l.part-iterator;
  is_finite : (goal.iterator-loop-part).is_finite l.part-iterator;
  smaller : sum (map size l.part-iterator) < size l.fn.expr;
  same : list_all (λ part. aggregates_fit part l.inside) l.part-iterator
      ≡ aggregates_fit l.fn.expr l.fn.allowed;
}
