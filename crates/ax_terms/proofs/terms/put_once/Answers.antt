use Rattle.ax_terms.proofs.TermSets.{in_order_too}
use Rattle.ax_terms.proofs.terms.put_once.Goals as goal

pub returns-clause-exact : goal.returns-clause-exact
returns-clause-exact c policy given old = record {
  exact = in_order_too policy given c.args.terms.now.items c.put_in_order.new.terms.items old.exact
      c.put_in_order.ensures.same;
}
