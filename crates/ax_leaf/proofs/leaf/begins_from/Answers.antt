use Rattle.std.proofs.Common.{◌-◌, ℕ, arith, subst}
use Rattle.ax_leaf.specs.TermList.{HasTermList}
use Rattle.ax_leaf.proofs.Listed.{no_first}
use Rattle.ax_pair.proofs.PairOrder.{the_pair}
use Rattle.ax_leaf.proofs.Whole.{first_pair, begins_where}
use Rattle.ax_leaf.proofs.leaf.begins_from.Goals as goal

pub returns-in_default : goal.returns-in_default
returns-in_default c postings is =
    absurd (no_first c.args.list.now (c.args.count - 1) c.in_default.ensures.only
    (subst (λ (n : ℕ). HasTermList n c.args.list.now) (omega arith) (postings, is)))

pub returns : goal.returns
returns c postings is =
    begins_where (the_pair c.args.low_term.now c.args.low_number) c.in-Some.first.term.rest.now c.in-Some-next.number postings c.comes_before.result
    (first_pair c.args.list.now c.args.count c.in-Some.first.term.shared c.in-Some.first.term.rest.now _ _ c.in-Some-next.number postings
    (record { spelled = c.in-Some.ensures.found; some = c.in-Some.ensures.some; rising = c.in-Some.ensures.rising })
    c.if-count-eq0.false c.in-Some-next.ensures.number is)
    c.comes_before.ensures
