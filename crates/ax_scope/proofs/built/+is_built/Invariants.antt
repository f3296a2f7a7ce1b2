-- The parts that are left are built just where the whole is, and are smaller than it.
use Rattle.std.proofs.Common.{◌≡◌, ◌<◌, map, sum}
use Rattle.std.specs.List.{list_all}
use Rattle.ax_mean.specs.Parts.{size}
use Rattle.ax_grammar.specs.Parts.{is_built}
use Rattle.ax_scope.proofs.built.+is_built.Given as goal

abbrev pub decreases-is_built : goal.decreases-is_built
decreases-is_built l = size l.expr.now

abbrev pub invariant-loop-part : goal.invariant-loop-part
invariant-loop-part l = record {
  can_next : (goal.iterator-loop-part).can_next l.part-iterator;
  is_finite : (goal.iterator-loop-part).is_finite l.part-iterator;
  smaller : sum (map size l.part-iterator) < size l.fn.expr;
  same : list_all (is_built l.fn.groups) l.part-iterator ≡ is_built l.fn.groups l.fn.expr;
}
