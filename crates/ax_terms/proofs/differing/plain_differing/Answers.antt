use Rattle.ax_terms.proofs.Differences.{plain_differ}
use Rattle.ax_terms.proofs.differing.plain_differing.Goals as goal

pub returns : goal.returns
returns c =
    plain_differ c.walk.result c.args.policy.now c.args.old.now c.args.new.now c.push.new.self.items
    c.new-front.result.items c.append_differing.new.gone.items c.new-gone.result.items
    c.append_differing.new.come.items c.new-come.result.items c.walk.ensures c.in_ok-push.ensures.items
    c.new-front.ensures.items c.new-gone.ensures.items c.new-come.ensures.items c.in_ok-append_differing.ensures.terms
