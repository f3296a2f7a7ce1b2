-- The values so far are those of the first orders.
use Rattle.std.proofs.Common.{◌≡◌, map, take}
use Rattle.ax_mean.specs.declared.query.Order.{Order}
use Rattle.ax_mean.specs.declared.value.Value.TheVariants.{Defined}
use Rattle.ax_mean.specs.Rows.{along_path}
use Rattle.ax_rows.proofs.parts.order_values.Given as goal

abbrev pub invariant-loop-order : goal.invariant-loop-order
invariant-loop-order l =
    l.values.items
    ≡ map (λ (order : Order). along_path (Defined l.tree) order.path) (take l.order-index l.orders)
