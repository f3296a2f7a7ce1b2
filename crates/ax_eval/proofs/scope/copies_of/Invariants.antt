-- The copies so far are those of the first bindings.
use Rattle.std.proofs.Common.{◌≡◌, map, take}
use Rattle.ax_eval.specs.Bindings.{binding_pair}
use Rattle.ax_eval.proofs.scope.copies_of.Given as goal

abbrev pub invariant-loop-binding : goal.invariant-loop-binding
invariant-loop-binding l = l.env ≡ map binding_pair (take l.binding-index l.bindings)
