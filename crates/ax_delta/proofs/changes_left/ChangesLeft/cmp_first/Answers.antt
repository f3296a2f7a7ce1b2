use Rattle.std.proofs.Common.{◌∙◌, ap, sym}
use Rattle.ax_pair.specs.Order.{pair_cmp}
use Rattle.ax_delta.specs.Pass.{first_cmp}
use Rattle.ax_delta.proofs.SamePair.{the_pair}
use Rattle.ax_delta.proofs.Taking.{at_end, cmp_it}
use Rattle.ax_delta.proofs.changes_left.ChangesLeft.cmp_first.Goals as goal

pub returns-in_default : goal.returns-in_default
returns-in_default c =
    sym (ap (λ cs. first_cmp cs (the_pair c.args.term.now c.args.number)) (at_end c.args.self.now c.requires c.in_default.ensures))

pub returns : goal.returns
returns c =
    cmp_it c.args.self.now c.in-Some.field-0-0 c.in-Some.first (the_pair c.args.term.now c.args.number) c.cmp_pair.result c.in-Some.ensures
    (c.cmp_pair.ensures ∙ ap (λ t. pair_cmp (the_pair t c.in-Some.first) (the_pair c.args.term.now c.args.number)) c.as_slice.ensures.value)
