-- The documents that the plan leaves have all rows of the query, and are as many as it needs.
use Rattle.std.proofs.Common.{subst, sym}
use Rattle.std.specs.Prelude.{IsTrue, OnOk}
use Rattle.ax_area.specs.Contents.{Contents}
use Rattle.ax_image.specs.Documents.{ContentsHold}
use Rattle.ax_index.proofs.Unmoved.{same_contents}
use Rattle.ax_store.specs.Store.{store_contents}
use Rattle.ax_engine.specs.Candidates.{CountsTwoEach, IsAmong}
use Rattle.ax_engine.specs.Damage.{MeetsDocuments}
use Rattle.ax_engine.proofs.Choosing.{counts_planned, has_all, planned_met_by, within_need}
use Rattle.ax_engine.proofs.Looking.{ready_behind, scan_behind}
use Rattle.ax_engine.proofs.querying.rows_by_plan.Goals as goal

pub rows_of_query-rows-requires : goal.rows_of_query-rows-requires
rows_of_query-rows-requires g c = record {
  ready = ready_behind g.C.PageCache.pages _ _ c.candidates_of-found.ensures.honest c.in-Ok.candidates _ c.candidates_of-found.new.store
      c.new-ahead.result _ _ _ _ c.requires.works c.new-ahead.ensures c.in-Ok.ensures.looks;
}

pub returns-clause-rows : goal.returns-clause-rows
returns-clause-rows g c = λ honest container hold used.
    let same = same_contents c.args.store.now c.candidates_of-found.new.store c.in-Ok.ensures.looks.reads.same.same in
    c.rows_of_query-rows.ensures.rows (subst IsTrue (sym c.candidates_of-found.ensures.honest) honest) container
    (subst (λ (contents : Contents). ContentsHold contents container) (sym same) hold.documents)
    (has_all c.args.table.now c.args.query (store_contents c.args.store.now) c.in-Ok.candidates container hold used
    (c.in-Ok.ensures.found honest))

pub returns-clause-met : goal.returns-clause-met
returns-clause-met g c = λ honest.
    let same = same_contents c.args.store.now c.candidates_of-found.new.store c.in-Ok.ensures.looks.reads.same.same in
    planned_met_by c.args.table.now c.args.query (store_contents c.args.store.now) c.in-Ok.candidates c.rows_of_query-rows.result
    (c.in-Ok.ensures.found honest)
    (λ rising. subst (λ (contents : Contents). OnOk c.rows_of_query-rows.result
    (MeetsDocuments (IsAmong c.in-Ok.candidates) c.args.query contents))
    same (c.rows_of_query-rows.ensures.met (subst IsTrue (sym c.candidates_of-found.ensures.honest) honest) rising))
    c.rows_of_query-rows.ensures.none

pub returns-clause-few : goal.returns-clause-few
returns-clause-few g c = λ honest.
    let same = same_contents c.args.store.now c.candidates_of-found.new.store c.in-Ok.ensures.looks.reads.same.same in
    counts_planned c.args.table.now c.args.query (store_contents c.args.store.now) c.in-Ok.candidates _ _
    (c.in-Ok.ensures.found honest)
    (subst (λ (contents : Contents). CountsTwoEach c.in-Ok.candidates contents c.args.steps.now c.rows_of_query-rows.new.steps) same
    c.rows_of_query-rows.ensures.bound)

pub returns-clause-bound : goal.returns-clause-bound
returns-clause-bound g c = λ honest container hold just.
    let same = same_contents c.args.store.now c.candidates_of-found.new.store c.in-Ok.ensures.looks.reads.same.same in
    within_need c.args.table.now c.args.query (store_contents c.args.store.now) c.in-Ok.candidates container _ _ hold just
    (c.in-Ok.ensures.found honest)
    (subst (λ (contents : Contents). CountsTwoEach c.in-Ok.candidates contents c.args.steps.now c.rows_of_query-rows.new.steps) same
    c.rows_of_query-rows.ensures.bound)

pub returns-clause-looks : goal.returns-clause-looks
returns-clause-looks g c =
    scan_behind g.C.PageCache.pages _ _ c.candidates_of-found.ensures.honest c.in-Ok.candidates _ c.candidates_of-found.new.store _ _ _ _ _ _ _ _
    c.requires.works c.in-Ok.ensures.looks c.rows_of_query-rows.result c.rows_of_query-rows.ensures.scans
