-- A replacement keeps each number.
use Rattle.std.proofs.Common.{List, sym, subst}
use Rattle.ax_container.specs.Container.{Entry, NumbersRise}
use Rattle.ax_policy.specs.Default.{default_policy}
use Rattle.ax_plain.proofs.Rising.{rise_replaced}
use Rattle.ax_plain.proofs.plain_machine.PlainMachine.exchange.Goals as goal

pub invariant_of-self : goal.invariant_of-self
invariant_of-self c =
    let next = c.self.inside.next_number in
    let before : NumbersRise 0 c.as_slice.result.now next =
    subst (λ (entries : List Entry). NumbersRise 0 entries next)
    (sym c.as_slice.ensures.value) c.self.invariant
    in subst (λ (entries : List Entry). NumbersRise 0 entries next) (sym c.in_ok-self-inside.ensures)
    (rise_replaced c.args.id.now c.args.tree.now default_policy 0 next c.as_slice.result.now before)
