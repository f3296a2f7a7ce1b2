use Rattle.std.proofs.Common.{◌+◌, arith, ap, ◌∙◌, sym}
use Rattle.ax_leaf.specs.Payload.{common}
use Rattle.ax_leaf.proofs.Meeting.{met_before, met_common}
use Rattle.ax_leaf.proofs.matching.matched_by.Goals as goal

pub returns-then-matched-term : goal.returns-then-matched-term
returns-then-matched-term c last met l =
    sym met.matches ∙ sym (met_before last c.args.sought.now c.args.matched c.args.term.shared c.args.term.rest.now met (omega arith)).alike

pub returns : goal.returns
returns c last met l =
    ap (λ n. c.args.matched + n) (c.in_common.ensures.shared ∙ ap (common c.args.term.rest.now) c.behind.ensures)
    ∙ sym (met_common last c.args.sought.now c.args.matched c.args.term.shared c.args.term.rest.now met (omega arith))
