use Rattle.ax_terms.proofs.TermSets.{with_composites}
use Rattle.ax_terms.proofs.terms.all_terms.Goals as goal

pub returns : goal.returns
returns c = record {
  exact = with_composites c.args.policy.now c.args.tree.now c.in_ok-terms.terms.items
      c.append_composites.new.terms.items c.in_ok-terms.ensures c.in_ok-append_composites.ensures;
}
