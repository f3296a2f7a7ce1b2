-- The documents stand in the order of their numbers.
use Rattle.std.proofs.Common.{map, List, sym, subst}
use Rattle.std.specs.List.Sorted.{IsStrictlySortedBy}
use Rattle.std.specs.Ordering.{nat_cmp}
use Rattle.ax_container.specs.Container.{Entry}
use Rattle.ax_plain.proofs.Rising.{in_order}
use Rattle.ax_plain.proofs.plain_machine.PlainMachine.asked.Goals as goal

pub answer_rows-requires : goal.answer_rows-requires
answer_rows-requires c =
    subst (λ (entries : List Entry). IsStrictlySortedBy nat_cmp (map (λ entry. entry.number) entries))
    (sym c.as_slice-documents.ensures.value)
    (in_order 0 c.self.inside.next_number c.self.inside.documents.items c.self.invariant)
