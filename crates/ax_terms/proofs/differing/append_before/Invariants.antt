-- What takes the members that are left from here has taken all.
use Rattle.std.proofs.Common.{◌≡◌, ℕ, List, length}
use Rattle.ax_tree.specs.declared.members.Member.{Member}
use Rattle.ax_tree.specs.declared.tree.Tree.{Tree}
use Rattle.ax_terms.specs.Differing.{TakesBefore}
use Rattle.ax_terms.proofs.differing.append_before.Given as goal

abbrev pub invariant-loop-member : goal.invariant-loop-member
invariant-loop-member l = record {
  front : l.front.items ≡ l.initial.front.items;
  terms : (left : List (Member Tree)) (end : List (List ℕ))
      → TakesBefore l.walk l.front.items l.name l.left left l.terms.items end
      → TakesBefore l.walk l.initial.front.items l.name l.initial.left left l.initial.terms.items end;
}

abbrev pub decreases-loop-member : goal.decreases-loop-member
decreases-loop-member l = length l.left
