-- A deletion leaves the other numbers.
use Rattle.std.proofs.Common.{List, sym, subst}
use Rattle.ax_container.specs.Container.{Entry, NumbersRise}
use Rattle.ax_container.proofs.Soundness.{numbers_without}
use Rattle.ax_plain.proofs.plain_machine.PlainMachine.delete.Goals as goal

pub invariant_of-self : goal.invariant_of-self
invariant_of-self c =
    let next = c.self.inside.next_number in
    let before : NumbersRise 0 c.as_slice-2.result.now next =
    subst (λ (entries : List Entry). NumbersRise 0 entries next)
    (sym c.as_slice-2.ensures.value) c.self.invariant
    in subst (λ (entries : List Entry). NumbersRise 0 entries next) (sym c.in_ok-self-inside.ensures)
    (numbers_without c.args.id.now c.as_slice-2.result.now 0 next before)
