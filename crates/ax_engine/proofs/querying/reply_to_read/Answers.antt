-- What a query is refused for is its own refusal; one that is answered has none.
use Rattle.std.proofs.Common.{◌≡◌, Some, refl, subst}
use Rattle.ax_store.specs.Store.{store_contents}
use Rattle.ax_engine.specs.Replies.{own_refusal}
use Rattle.ax_engine.proofs.Choosing.{none_counted}
use Rattle.ax_engine.proofs.OwnRefusals.{is_kept, is_refused}
use Rattle.ax_engine.proofs.querying.reply_to_read.Goals as goal

pub returns-in-Some-clause-fits : goal.returns-in-Some-clause-fits
returns-in-Some-clause-fits g c =
    subst (λ policy. own_refusal policy (Some c.args.query) ≡ Some c.in-Some.refusal) c.current_policy.ensures
    (is_refused c.current_policy.result.now c.args.query c.in-Some.refusal c.in-Some.ensures.refused)

pub returns-in-Some-clause-few : goal.returns-in-Some-clause-few
returns-in-Some-clause-few g c = λ honest. none_counted c.args.table.now c.args.query (store_contents c.args.store.now) _ _ refl

pub rows_by_plan-requires-clause-kept : goal.rows_by_plan-requires-clause-kept
rows_by_plan-requires-clause-kept g c = is_kept _ _ c.args.query c.current_policy.ensures c.in_default.ensures.answered
