-- The rows of the keys, each with the text of its document, are the rows of the query.
use Rattle.std.proofs.Common.{◌∙◌, ap, sym, subst}
use Rattle.std.specs.Prelude.{IfOk, IsTrue}
use Rattle.ax_image.specs.Documents.{ContentsHold}
use Rattle.ax_machine.specs.Querying.{numbered}
use Rattle.ax_result.specs.Answers.{answer_of}
use Rattle.ax_store.specs.Kept.{Kept}
use Rattle.ax_store.specs.Store.{store_contents}
use Rattle.ax_engine.specs.Replies.{AreRows}
use Rattle.ax_engine.specs.Candidates.{HasAllOf, IsAmong}
use Rattle.ax_engine.specs.Damage.{MeetsDocuments}
use Rattle.ax_engine.specs.StoreSays.{kept_says}
use Rattle.ax_engine.proofs.Damaging.{on_ok}
use Rattle.ax_engine.proofs.Walking.{keys_met}
use Rattle.ax_engine.proofs.Choosing.{for_keys}
use Rattle.ax_engine.proofs.Numbers.{shown_rows}
use Rattle.ax_engine.proofs.Scanning.{scans_on}
use Rattle.ax_engine.proofs.Stopping.{stops_for_keys}
use Rattle.ax_engine.proofs.querying.rows_of_documents.Goals as goal

pub returns-in-Ok-rows-clause-rows : goal.returns-in-Ok-rows-clause-rows
returns-in-Ok-rows-clause-rows g c = λ honest container hold all.
    let keys : HasAllOf c.in-Ok.keys c.args.candidates.now container =
    for_keys c.args.query c.in-Ok.keys c.args.candidates.now container c.in-Ok.ensures all in
    subst (λ texts. IfOk c.document_rows.result (λ rows. AreRows rows texts))
    (shown_rows c.args.query container c.requires.printed.0 hold.show.sound c.as_slice.result.now
    (c.as_slice.ensures.value ∙ c.in-Ok-rows.ensures.rows honest container hold keys
    ∙ ap (λ query. answer_of query (numbered container)) c.in-Ok.ensures))
    (c.document_rows.ensures.rows (subst IsTrue (sym c.in-Ok-rows.ensures.honest) honest) container
    (subst (λ (kept : Kept). ContentsHold (kept_says kept) container) (sym c.in-Ok-rows.ensures.scans.same.pages) hold))

pub returns-in-Ok-rows-clause-scans : goal.returns-in-Ok-rows-clause-scans
returns-in-Ok-rows-clause-scans g c =
    scans_on g.C.PageCache.pages _ _ _ _ _ _ _ _ _ _ _ _ _ c.in-Ok-rows.ensures.honest c.in-Ok-rows.ensures.scans c.document_rows.result
    c.document_rows.ensures.scans

pub returns-in-Ok-rows-clause-met : goal.returns-in-Ok-rows-clause-met
returns-in-Ok-rows-clause-met g c = λ honest rising.
    on_ok c.document_rows.result (MeetsDocuments (IsAmong c.args.candidates.now) c.args.query (store_contents c.args.store.now))
    (keys_met (IsAmong c.args.candidates.now) c.args.query _ (store_contents c.args.store.now) c.in-Ok.ensures c.requires.printed
    (c.in-Ok-rows.ensures.met honest rising))

pub returns-in-Ok-rows-clause-stops : goal.returns-in-Ok-rows-clause-stops
returns-in-Ok-rows-clause-stops g c = λ honest container hold.
    stops_for_keys c.args.query c.requires.printed.0 c.in-Ok.keys c.args.candidates.now container _ _ c.in-Ok.ensures
    (c.in-Ok-rows.ensures.stops honest container hold)

pub returns-in-Err-clause-stops : goal.returns-in-Err-clause-stops
returns-in-Err-clause-stops g c = λ honest container hold.
    stops_for_keys c.args.query c.requires.printed.0 c.in-Ok.keys c.args.candidates.now container _ _ c.in-Ok.ensures
    (c.in-Err.ensures.stops honest container hold)
