-- What keeps what is kept so far and what the orders that are left look at keeps all.
use Rattle.std.proofs.Common.{◌≡◌, [], true, false, drop}
use Rattle.std.specs.List.{list_all}
use Rattle.ax_mean.specs.declared.query.Order.{Order}
use Rattle.ax_excerpt.specs.declared.excerpt.Excerpt.{Excerpt}
use Rattle.ax_excerpt.specs.Excerpts.{keeps, keeps_path}
use Rattle.ax_excerpt.specs.Needs.{IsMore, orders_told}
use Rattle.ax_excerpt.specs.Plain.{are_plain}
use Rattle.ax_excerpt.proofs.collecting.with_orders.Given as goal

abbrev pub invariant-loop-order : goal.invariant-loop-order
invariant-loop-order l = record {
  so_far : (e : Excerpt) → IsMore l.grown e
      → list_all (λ (order : Order). keeps_path e order.path) (drop l.order-index l.order-items) ≡ true
      → list_all (λ (order : Order). keeps_path e order.path) l.orders ≡ true;
  more : IsMore l.fn.excerpt l.grown;
  plain : are_plain l.fn.excerpt ≡ true → are_plain l.grown ≡ true;
  left : orders_told l.orders ≡ true → orders_told (drop l.order-index l.order-items) ≡ true;
  part : orders_told l.orders ≡ true → keeps l.fn.excerpt [] ≡ false → keeps l.grown [] ≡ false;
}
