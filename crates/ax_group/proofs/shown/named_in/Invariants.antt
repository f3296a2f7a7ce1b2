-- The items that are left, put into the members so far, make the whole map.
use Rattle.std.proofs.Common.{◌≡◌, [], drop, map}
use Rattle.ax_mean.specs.Building.{all_put}
use Rattle.ax_mean.specs.Rows.{named_member}
use Rattle.ax_group.specs.Walks.{items_filled}
use Rattle.ax_group.proofs.shown.named_in.Given as goal

abbrev pub invariant-loop-item : goal.invariant-loop-item
invariant-loop-item l =
    all_put l.members
    (map (named_member []) (items_filled (drop l.item-index l.item-items) l.results))
    ≡ all_put [] (map (named_member []) (items_filled l.item-items l.fn.results))
