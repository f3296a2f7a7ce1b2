-- The test of an order by a policy, as code gives it and as the definition has it.
use Rattle.std.proofs.Common.{◌≡◌, List, Bool, true, false, refl, sym, IsTrue, ◌↔◌}
use Rattle.ax_mean.specs.declared.query.Order.{Order}
use Rattle.ax_policy.specs.declared.policy.Policy.{Policy}
use Rattle.ax_policy.specs.Ordering.{Orderable}
use Rattle.ax_policy.specs.Sameness.{is_orderable}
use Rattle.ax_policy.proofs.Orders.{orderable, orderable_is}

false_is : (test : Bool) → (test ≡ true → ⊥) → test ≡ false
false_is true never = absurd (never refl)
false_is false never = refl

pub refused : (policy : Policy) (orders : List Order) → (Orderable policy orders → ⊥) → is_orderable policy orders ≡ false
refused policy orders never = false_is (is_orderable policy orders) (λ yes. never (orderable policy orders yes))

pub by_test : (policy : Policy) (orders : List Order) (test : Bool) → (IsTrue test ↔ Orderable policy orders)
    → test ≡ is_orderable policy orders
by_test policy orders true same = sym (orderable_is policy orders (same.0 refl))
by_test policy orders false same = sym (refused policy orders (λ kept. absurd (cc (same.1 kept))))
