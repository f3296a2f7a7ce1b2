-- The sources so far, before those that are left, are all sources.
use Rattle.std.proofs.Common.{◌≡◌, ◌∷◌, ◌++◌, map}
use Rattle.std.specs.Vec.Iter.{into_iter_items}
use Rattle.ax_grammar.specs.Made.{source_made, join_made}
use Rattle.ax_scope.specs.AsWritten.{source_of, joined_of}
use Rattle.ax_scope.proofs.make.froms_made.Given as goal

abbrev pub invariant-loop-joined : goal.invariant-loop-joined
invariant-loop-joined l = record {
  next : (goal.iterator-loop-joined).can_next l.joined-iterator;
  finite : (goal.iterator-loop-joined).is_finite l.joined-iterator;
  made : l.froms ++ map join_made (map joined_of (into_iter_items l.joined-iterator))
      ≡ source_made (source_of l.fn.source) ∷ map join_made (map joined_of l.fn.joins);
}
