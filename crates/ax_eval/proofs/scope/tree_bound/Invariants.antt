-- No binding so far has the alias.
use Rattle.std.proofs.Common.{◌≡◌, map, drop}
use Rattle.ax_mean.specs.Meaning.{bound}
use Rattle.ax_eval.specs.Bindings.{binding_pair}
use Rattle.ax_eval.proofs.scope.tree_bound.Given as goal

abbrev pub invariant-loop-binding : goal.invariant-loop-binding
invariant-loop-binding l =
    bound (map binding_pair (drop l.binding-index l.bindings)) l.alias
    ≡ bound (map binding_pair l.bindings) l.alias
