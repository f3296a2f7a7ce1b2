-- The aliases so far, before those of the joins that are left, are all aliases.
use Rattle.std.proofs.Common.{◌≡◌, ◌++◌, drop, map}
use Rattle.ax_grammar.specs.Scope.{aliases_of}
use Rattle.ax_scope.specs.AsWritten.{joined_of, written_of}
use Rattle.ax_scope.proofs.aliases.aliases_of.Given as goal

abbrev pub invariant-loop-joined : goal.invariant-loop-joined
invariant-loop-joined l =
    l.names ++ map (λ joined. joined.alias) (map joined_of (drop l.joined-index l.joined-items))
    ≡ aliases_of (written_of l.written)
