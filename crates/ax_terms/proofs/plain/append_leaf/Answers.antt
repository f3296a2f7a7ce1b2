use Rattle.ax_terms.proofs.Adding.{leaf_told}
use Rattle.ax_terms.proofs.plain.append_leaf.Goals as goal

pub returns : goal.returns
returns c =
    leaf_told c.args.walk c.args.front.now c.args.tree.now c.args.terms.now.items
    c.append_if.new.terms.items c.covers.result c.covers.ensures c.in_ok-append_if.ensures
