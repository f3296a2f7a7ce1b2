-- A creation takes the next number.
use Rattle.std.proofs.Common.{List, ◌+◌, sym, subst, ap}
use Rattle.ax_container.specs.Container.{Entry, NumbersRise}
use Rattle.ax_plain.proofs.Rising.{rise_created}
use Rattle.ax_plain.proofs.plain_machine.PlainMachine.append.Goals as goal

pub invariant_of-self-2 : goal.invariant_of-self-2
invariant_of-self-2 c =
    let next = c.self.inside.next_number in
    subst (λ (entries : List Entry). NumbersRise 0 entries (next + 1)) (sym c.in_ok-push.ensures.items)
    (rise_created 0 next c.self.inside.documents.items c.new-document.result
    (ap (λ (entry : Entry). entry.number) c.new-document.ensures) c.self.invariant)
