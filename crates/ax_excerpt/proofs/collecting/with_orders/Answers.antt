-- No order is left.
use Rattle.std.proofs.Common.{ap}
use Rattle.std.proofs.lemmas.List.{drop_all}
use Rattle.std.specs.List.{list_all}
use Rattle.ax_mean.specs.declared.query.Order.{Order}
use Rattle.ax_excerpt.specs.Excerpts.{keeps_path}
use Rattle.ax_excerpt.proofs.collecting.with_orders.Goals as goal

pub returns-clause-kept : goal.returns-clause-kept
returns-clause-kept c =
    c.loop-order.invariant.so_far _ (λ s h. h)
    (ap (list_all (λ (order : Order). keeps_path _ order.path))
    (drop_all c.loop-order.order-index c.as_slice-order-items.result.now c.loop-order-test.false))
