use Rattle.std.proofs.Common.{arith}
use Rattle.ax_store.specs.Store.{store_contents}
use Rattle.ax_index.proofs.CallLemmas.{first_planned, parted_there}
use Rattle.ax_index.proofs.PutLemmas.{put_together, rise_parted}
use Rattle.ax_index.proofs.plan.plan_first.Goals as goal

pub plan_page-requires-clause-rise : goal.plan_page-requires-clause-rise
plan_page-requires-clause-rise g c =
    (rise_parted c.args.changes.now _ _
    (put_together c.first_run-run.result.len c.args.changes.now _ _ c.split_at.ensures.front c.split_at.ensures.back) c.requires.rise).0

pub returns-clause-rise : goal.returns-clause-rise
returns-clause-rise g c =
    (rise_parted c.args.changes.now _ _
    (put_together c.first_run-run.result.len c.args.changes.now _ _ c.split_at.ensures.front c.split_at.ensures.back) c.requires.rise).1

pub returns-clause-planned : goal.returns-clause-planned
returns-clause-planned g c = λ all old is.
    first_planned all c.args.changes.now c.split_at.result.0.now c.split_at.result.1.now
    (store_contents c.args.store.now).terms c.args.plan.now.merged c.args.plan.now.next
    c.plan_page.new.next c.as_number.result _ _ old _ _ c.first_run-run.result.page c.in-Ok.merged
    (put_together c.first_run-run.result.len c.args.changes.now _ _ c.split_at.ensures.front c.split_at.ensures.back)
    (omega (arith, c.split_at.ensures.front_len, c.first_run-run.ensures.some, c.first_run-run.ensures.within)) c.requires.rise c.first_run-run.ensures.page
    (parted_there c.first_run-run.result.page c.first_run-run.result.len c.args.changes.now _ _ _ c.split_at.ensures.front c.split_at.ensures.back
    c.first_run-run.ensures.parted)
    c.as_number.ensures is c.in-Ok.ensures.never_less (λ so told. c.in-Ok.ensures.met told so) c.in-Ok.ensures.planned
