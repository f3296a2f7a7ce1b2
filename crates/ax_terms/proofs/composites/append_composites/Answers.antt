use Rattle.ax_policy.specs.Ordering.{offered}
use Rattle.ax_terms.specs.TermsOf.{composite_term_of}
use Rattle.ax_terms.proofs.EachOffered.{term_more}
use Rattle.ax_terms.proofs.composites.append_composites.Goals as goal

pub loop-at-preserved : goal.loop-at-preserved
loop-at-preserved c =
    term_more (composite_term_of c.args.tree.now) (offered c.args.policy.now) c.loop-at.at
    c.in-Some.composite.now c.loop-at.terms.items _ c.args.terms.now.items _ c.in-Some.ensures
    c.in_ok-term_of.ensures c.loop-at.invariant c.in_ok-push.ensures.items
