-- The deepest so far and the deepest of the rest make the deepest of all.
use Rattle.std.proofs.Common.{◌≡◌, ◌-◌, ◌^◌, map, drop, min, max}
use Rattle.ax_tree.specs.Nesting.{nesting, greatest}
use Rattle.ax_text.proofs.tree_nesting.+nesting.Given as goal

abbrev pub invariant-deepest_item-loop-item : goal.invariant-deepest_item-loop-item
invariant-deepest_item-loop-item l =
    max l.deepest (min (greatest (map nesting (drop l.item-index l.item-items))) (2 ^ 32 - 1)) ≡ min
    (greatest (map nesting l.item-items)) (2 ^ 32 - 1)

abbrev pub invariant-deepest_member-loop-member : goal.invariant-deepest_member-loop-member
invariant-deepest_member-loop-member l =
    max l.deepest
    (min (greatest (map (λ m. nesting m.value) (drop l.member-index l.member-items)))
    (2 ^ 32 - 1)) ≡ min (greatest (map (λ m. nesting m.value) l.member-items)) (2 ^ 32 - 1)
