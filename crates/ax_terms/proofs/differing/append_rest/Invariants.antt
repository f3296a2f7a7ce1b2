-- Where the terms of the members that are left are added, those of all are.
use Rattle.std.proofs.Common.{◌≡◌, ℕ, List, drop}
use Rattle.ax_terms.specs.Adding.{AddsAt}
use Rattle.ax_terms.specs.Differing.{leaves_of}
use Rattle.ax_terms.proofs.differing.append_rest.Given as goal

abbrev pub invariant-loop-member : goal.invariant-loop-member
invariant-loop-member l = record {
  front : l.front.items ≡ l.initial.front.items;
  terms : (end : List (List ℕ))
      → AddsAt l.walk l.front.items (leaves_of (drop l.member-index l.members)) l.terms.items end
      → AddsAt l.walk l.initial.front.items (leaves_of l.members) l.initial.terms.items end;
}
