-- The query that was read is the one that the body's text is.
use Rattle.std.proofs.Common.{◌∙◌, refl, subst, sym, ap}
use Rattle.std.specs.Prelude.{IfOk}
use Rattle.ax_store.specs.Store.{store_contents}
use Rattle.ax_engine.specs.Damage.{CountsPlanned, IfRows, MeetsPlanned}
use Rattle.ax_engine.specs.PolicyNow.{policy_now}
use Rattle.ax_engine.specs.Replies.{own_refusal}
use Rattle.ax_engine.proofs.Choosing.{none_counted}
use Rattle.ax_engine.proofs.Damaging.{one_query}
use Rattle.ax_engine.proofs.querying.reply_to_query.Goals as goal

pub returns-in-Ok-Some-clause-met : goal.returns-in-Ok-Some-clause-met
returns-in-Ok-Some-clause-met g c = λ honest query is.
    subst (λ q. IfOk c.reply_to_read.result (λ reply. IfRows reply (MeetsPlanned c.args.table.now q (store_contents c.args.store.now))))
    (one_query c.in-Ok-Some.query query (sym c.in-Ok-Some.field-0-is ∙ c.in-Ok-Some.ensures ∙ is)) (c.reply_to_read.ensures.met honest)

pub returns-in-Ok-Some-clause-few : goal.returns-in-Ok-Some-clause-few
returns-in-Ok-Some-clause-few g c = λ honest query is.
    subst (λ q. CountsPlanned c.args.table.now q (store_contents c.args.store.now) c.args.steps.now c.reply_to_read.new.steps)
    (one_query c.in-Ok-Some.query query (sym c.in-Ok-Some.field-0-is ∙ c.in-Ok-Some.ensures ∙ is)) (c.reply_to_read.ensures.few honest)

pub returns-in-Ok-Some-clause-none : goal.returns-in-Ok-Some-clause-none
returns-in-Ok-Some-clause-none g c = λ why own.
    c.reply_to_read.ensures.none why
    (ap (own_refusal (policy_now c.args.table.now)) (sym c.in-Ok-Some.field-0-is ∙ c.in-Ok-Some.ensures) ∙ own)

pub returns-in-Ok-None-clause-few : goal.returns-in-Ok-None-clause-few
returns-in-Ok-None-clause-few g c = λ honest query is. none_counted c.args.table.now query (store_contents c.args.store.now) _ _ refl

pub returns-in-Err-clause-few : goal.returns-in-Err-clause-few
returns-in-Err-clause-few g c = λ honest query is. none_counted c.args.table.now query (store_contents c.args.store.now) _ _ refl
