-- Where the trees that are left are counted, all are.
use Rattle.std.proofs.Common.{map, drop}
use Rattle.std.specs.List.{flat_map}
use Rattle.ax_terms.specs.declared.counter.Counter.{Counter}
use Rattle.ax_terms.specs.Counting.{Counted}
use Rattle.ax_terms.specs.Leaves.{leaves, leaves_in, member_leaves}
use Rattle.ax_terms.proofs.count.+count.Given as goal

abbrev pub invariant-count_items-loop-item : goal.invariant-count_items-loop-item
invariant-count_items-loop-item l =
    (after : Counter) → Counted l.counter l.place (flat_map leaves (drop l.item-index l.item-items)) after
    → Counted l.initial.counter l.place (flat_map leaves l.item-items) after

abbrev pub invariant-count_members-loop-member : goal.invariant-count_members-loop-member
invariant-count_members-loop-member l =
    (after : Counter)
    → Counted l.counter l.at (flat_map member_leaves (map leaves_in (drop l.member-index l.member-items))) after
    → Counted l.initial.counter l.at (flat_map member_leaves (map leaves_in l.member-items)) after
