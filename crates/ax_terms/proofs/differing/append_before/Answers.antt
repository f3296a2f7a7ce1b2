use Rattle.std.proofs.Common.{◌∙◌}
use Rattle.ax_terms.proofs.Passing.{none_taken, one_taken}
use Rattle.ax_terms.proofs.differing.append_before.Goals as goal

pub loop-member-preserved : goal.loop-member-preserved
loop-member-preserved c = record {
  front = c.in_ok-append_member.ensures.front ∙ c.loop-member.invariant.front;
  terms = λ left end rest.
      c.loop-member.invariant.terms left end
      (one_taken c.args.walk c.loop-member.front.items c.append_member.new.front.items c.args.name.now
      c.in-Some.member.now c.loop-member.left.now c.in-Some.behind.now left c.loop-member.terms.items
      c.append_member.new.terms.items end c.in-Some.ensures c.in_ok-append_member.ensures.front
      c.in_ok-append_member.ensures.terms rest);
}

pub returns-clause-terms : goal.returns-clause-terms
returns-clause-terms c =
    c.loop-member.invariant.terms _ _
    (none_taken c.args.walk c.loop-member.front.items c.args.name.now _ c.loop-member.terms.items)
