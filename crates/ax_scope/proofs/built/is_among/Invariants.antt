-- What is left has one that is the same just where all have it.
use Rattle.std.proofs.Common.{◌≡◌, drop}
use Rattle.std.specs.List.{list_any}
use Rattle.ax_grammar.specs.SameExprs.{is_same_expr}
use Rattle.ax_scope.proofs.built.is_among.Given as goal

abbrev pub invariant-loop-group : goal.invariant-loop-group
invariant-loop-group l =
    list_any (is_same_expr l.expr) (drop l.group-index l.group-items)
    ≡ list_any (is_same_expr l.expr) l.group-items
