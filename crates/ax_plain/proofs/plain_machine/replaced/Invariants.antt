-- What is copied so far and what is left make the whole.
use Rattle.std.proofs.Common.{◌≡◌, ◌++◌, map, drop}
use Rattle.ax_container.specs.Writes.{with_tree}
use Rattle.ax_policy.specs.Default.{default_policy}
use Rattle.ax_plain.proofs.plain_machine.replaced.Given as goal

abbrev pub invariant-loop-document : goal.invariant-loop-document
invariant-loop-document l = l.after.items ++ map (with_tree l.id l.tree default_policy)
    (drop l.document-index l.documents) ≡ map (with_tree l.id l.tree default_policy) l.documents
