-- Where the terms of the trees that are left are added, those of all are.
use Rattle.std.proofs.Common.{◌≡◌, ℕ, List, map, drop}
use Rattle.std.specs.List.{flat_map}
use Rattle.ax_terms.specs.Adding.{AddsAt}
use Rattle.ax_terms.specs.Leaves.{leaves, leaves_in, member_leaves}
use Rattle.ax_terms.proofs.plain.+plain.Given as goal

abbrev pub invariant-append_items-loop-item : goal.invariant-append_items-loop-item
invariant-append_items-loop-item l = record {
  front : l.front.items ≡ l.initial.front.items;
  terms : (end : List (List ℕ))
      → AddsAt l.below l.front.items (flat_map leaves (drop l.item-index l.item-items)) l.terms.items end
      → AddsAt l.below l.initial.front.items (flat_map leaves l.item-items) l.initial.terms.items end;
}

abbrev pub invariant-append_members-loop-member : goal.invariant-append_members-loop-member
invariant-append_members-loop-member l = record {
  front : l.front.items ≡ l.initial.front.items;
  terms : (end : List (List ℕ))
      → AddsAt l.walk l.front.items (flat_map member_leaves (map leaves_in (drop l.member-index l.member-items))) l.terms.items end
      → AddsAt l.walk l.initial.front.items (flat_map member_leaves (map leaves_in l.member-items)) l.initial.terms.items end;
}
