-- The documents were taken in by the order of their numbers, as the answer needs.
use Rattle.std.proofs.Common.{sym, subst}
use Rattle.std.specs.List.Sorted.{IsStrictlySortedBy}
use Rattle.std.specs.Ordering.{nat_cmp}
use Rattle.ax_plain.proofs.Rising.{numbers_of_pairs}
use Rattle.ax_plain.proofs.query_rows.answer_rows.Goals as goal

pub returns : goal.returns
returns c =
    c.in_ok-finish.ensures c.args.query.now _
    (c.in_ok-add_documents.ensures c.args.query.now c.in_ok-answer.ensures)
    (subst (λ numbers. IsStrictlySortedBy nat_cmp numbers)
    (sym (numbers_of_pairs c.args.documents.now)) c.requires)
