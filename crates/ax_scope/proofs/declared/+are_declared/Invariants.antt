-- The parts that are left are declared just where the whole is, and are smaller than it.
use Rattle.std.proofs.Common.{◌≡◌, ◌<◌, map, sum}
use Rattle.std.specs.List.{list_all}
use Rattle.ax_mean.specs.Parts.{size}
use Rattle.ax_grammar.specs.Parts.{are_declared}
use Rattle.ax_scope.proofs.declared.+are_declared.Given as goal

abbrev pub decreases-are_declared : goal.decreases-are_declared
decreases-are_declared l = size l.expr.now

abbrev pub invariant-loop-part : goal.invariant-loop-part
invariant-loop-part l = record {
  can_next : (goal.iterator-loop-part).can_next l.part-iterator;
  is_finite : (goal.iterator-loop-part).is_finite l.part-iterator;
  smaller : sum (map size l.part-iterator) < size l.fn.expr;
  same : list_all (are_declared l.fn.aliases) l.part-iterator
      ≡ are_declared l.fn.aliases l.fn.expr;
}
