use Rattle.std.proofs.Common.{◌≡◌, drop}
use Rattle.std.specs.List.{list_any}
use Rattle.ax_mean.specs.Aggregates.{has_aggregate}
use Rattle.ax_rows.proofs.aggregates.item_has_aggregate.Given as goal

abbrev pub invariant-loop-item : goal.invariant-loop-item
invariant-loop-item l =
    list_any (λ item. has_aggregate item.expr) (drop l.item-index l.item-items)
    ≡ list_any (λ item. has_aggregate item.expr) l.item-items
