-- What is left decides the whole.
use Rattle.std.proofs.Common.{◌≡◌, drop, map}
use Rattle.std.specs.List.{list_any}
use Rattle.ax_mean.specs.Aggregates.{has_aggregate}
use Rattle.ax_scope.specs.AsWritten.{item_of}
use Rattle.ax_scope.proofs.picks.one_item_has_aggregate.Given as goal

abbrev pub invariant-loop-item : goal.invariant-loop-item
invariant-loop-item l =
    list_any has_aggregate (map (λ item. item.expr) (map item_of (drop l.item-index l.item-items)))
    ≡ list_any has_aggregate (map (λ item. item.expr) (map item_of l.item-items))
