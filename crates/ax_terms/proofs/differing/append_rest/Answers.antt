use Rattle.std.proofs.Common.{◌∙◌}
use Rattle.ax_terms.proofs.Passing.{rest_added, rest_end}
use Rattle.ax_terms.proofs.differing.append_rest.Goals as goal

pub loop-member-preserved : goal.loop-member-preserved
loop-member-preserved c = record {
  front = c.in_ok-append_member.ensures.front ∙ c.loop-member.invariant.front;
  terms =
      rest_added c.args.walk c.args.front.now.items c.loop-member.front.items c.append_member.new.front.items
      c.args.members.now c.loop-member.member-index c.member-item.result c.args.terms.now.items
      c.loop-member.terms.items c.append_member.new.terms.items c.loop-member-test.true c.member-item.is
      c.in_ok-append_member.ensures.front c.in_ok-append_member.ensures.terms c.loop-member.invariant.terms;
}

pub returns-clause-terms : goal.returns-clause-terms
returns-clause-terms c =
    c.loop-member.invariant.terms c.loop-member.terms.items
    (rest_end c.args.walk c.loop-member.front.items c.args.members.now c.loop-member.member-index
    c.loop-member.terms.items c.loop-member-test.false)
