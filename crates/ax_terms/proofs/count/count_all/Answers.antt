use Rattle.ax_terms.proofs.CountLaws.{all_counted}
use Rattle.ax_terms.proofs.count.count_all.Goals as goal

pub returns : goal.returns
returns c =
    all_counted c.new-counter.result c.count_tree.new.counter c.args.tree.now c.new-counter.ensures
    c.in_ok-count_tree.ensures
