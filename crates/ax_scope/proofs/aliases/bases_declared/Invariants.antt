-- The joins that are left are judged by the aliases so far.
use Rattle.std.proofs.Common.{◌≡◌, ◌∷◌, [], drop, map}
use Rattle.ax_grammar.specs.Scope.{bases_declared}
use Rattle.ax_scope.specs.AsWritten.{joined_of}
use Rattle.ax_scope.proofs.Bases.{bases_after}
use Rattle.ax_scope.proofs.aliases.bases_declared.Given as goal

abbrev pub invariant-loop-joined : goal.invariant-loop-joined
invariant-loop-joined l =
    bases_after l.declared (map joined_of (drop l.joined-index l.joined-items))
    ≡ bases_declared (l.first ∷ []) (map joined_of l.joins)
