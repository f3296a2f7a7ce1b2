use Rattle.ax_index.proofs.CallLemmas.{planned_by_bases}
use Rattle.ax_index.proofs.plan.rewrite_changed.Goals as goal

pub returns-clause-merged : goal.returns-clause-merged
returns-clause-merged g c = λ honest now earlier up next belong alike done.
    planned_by_bases c.args.page c.args.changes.now _ now earlier _ _ c.args.next.now c.rewrite_list.new.next c.args.pairs c.in_ok-pairs.pairs
    c.requires.page up next
    c.requires.changes belong (c.in_ok-done.ensures.belong done) alike c.in_ok-pairs.ensures.made
    (λ there low all. c.in_ok-done.ensures.rewritten now next there low all done)
