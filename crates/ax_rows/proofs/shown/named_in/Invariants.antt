-- The items that are left, put into the members so far, make the whole map.
use Rattle.std.proofs.Common.{◌≡◌, [], drop, map}
use Rattle.ax_mean.specs.Building.{all_put}
use Rattle.ax_mean.specs.Rows.{named_member}
use Rattle.ax_rows.proofs.shown.named_in.Given as goal

abbrev pub invariant-loop-item : goal.invariant-loop-item
invariant-loop-item l =
    all_put l.members (map (named_member l.scope) (drop l.item-index l.item-items))
    ≡ all_put [] (map (named_member l.scope) l.item-items)
