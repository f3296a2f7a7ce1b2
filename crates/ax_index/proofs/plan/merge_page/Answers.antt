use Rattle.std.proofs.Common.{ap, refl}
use Rattle.ax_store.specs.Store.{store_contents}
use Rattle.ax_index.proofs.CallLemmas.{planned_there}
use Rattle.ax_index.proofs.plan.merge_page.Goals as goal

pub returns-in-Ok-rewrite_changed-clause-merged : goal.returns-in-Ok-rewrite_changed-clause-merged
returns-in-Ok-rewrite_changed-clause-merged g c = λ now earlier up next belong done.
    planned_there c.args.page c.args.changes.now now earlier _ _ c.args.next.now c.rewrite_changed.new.next c.in-Ok.pairs _
    (store_contents c.args.store.now).terms
    (ap (λ pages. pages.contents.terms) c.in-Ok.ensures.reads.same.same.pages)
    (λ up_here next_here belong_here alike. c.in-Ok-rewrite_changed.ensures.merged
    (g.D.Disk.is_honest c.args.disk.now) now earlier up_here next_here belong_here alike done)
    up next belong (λ told some has_some p. (c.in-Ok.ensures.has told some has_some).same p refl)
