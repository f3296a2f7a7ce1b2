-- What is held under the number of the container is the document of the id; and there is one.
use Rattle.std.proofs.Common.{sym, subst, ◌∙◌}
use Rattle.std.specs.Prelude.{IsTrue}
use Rattle.ax_index.proofs.Unmoved.{same_contents}
use Rattle.ax_store.specs.Store.{store_contents}
use Rattle.ax_write.proofs.FoundNumbers.{found_under, holds_still, never_absent, one_under, zero_absent}
use Rattle.ax_write.proofs.Meeting.{finds_held, finds_none, finds_unheld, finds_zero, held_still}
use Rattle.ax_write.specs.Writes.{IsLookedUp}
use Rattle.ax_write.proofs.finding.find_held.Goals as goal

pub returns-in-Ok-None-clause-met : goal.returns-in-Ok-None-clause-met
returns-in-Ok-None-clause-met g c = λ honest.
    finds_none c.args.ids.now c.args.id.now (store_contents c.args.store.now) c.in-Ok-None.field-0 (c.in-Ok-None.ensures.met honest)
    c.in-Ok-None.field-0-is

pub returns-then-number-eq0-clause-found : goal.returns-then-number-eq0-clause-found
returns-then-number-eq0-clause-found g c = λ honest before holds.
    zero_absent c.args.id.now before c.in-Ok-Some.number holds.contents.documents.show.sound c.if-number-eq0.true
    (sym c.in-Ok-Some.field-0-is ∙ c.in-Ok-Some.ensures.number honest before holds)

pub returns-then-number-eq0-clause-met : goal.returns-then-number-eq0-clause-met
returns-then-number-eq0-clause-met g c = λ honest.
    finds_zero c.args.ids.now c.args.id.now (store_contents c.args.store.now) c.in-Ok-Some.field-0 (c.in-Ok-Some.ensures.met honest)
    c.in-Ok-Some.number c.in-Ok-Some.field-0-is c.if-number-eq0.true

pub returns-in-Ok-Some-fetch_held-clause-found : goal.returns-in-Ok-Some-fetch_held-clause-found
returns-in-Ok-Some-fetch_held-clause-found g c = λ honest before holds.
    found_under (store_contents c.find_number.new.store) before (c.find_number.ensures.ids honest before holds).contents.documents
    c.args.id.now c.in-Ok-Some.number (sym c.in-Ok-Some.field-0-is ∙ c.in-Ok-Some.ensures.number honest before holds)
    c.in-Ok-Some-fetch_held.field-0 c.in-Ok-Some-fetch_held.document c.in-Ok-Some-fetch_held.field-0-is
    (c.in-Ok-Some-fetch_held.ensures.held (subst IsTrue (sym c.find_number.ensures.honest) honest))

pub returns-in-Ok-Some-fetch_held-clause-met : goal.returns-in-Ok-Some-fetch_held-clause-met
returns-in-Ok-Some-fetch_held-clause-met g c = λ honest.
    finds_held c.args.ids.now c.args.id.now (store_contents c.args.store.now) c.in-Ok-Some.field-0 (c.in-Ok-Some.ensures.met honest)
    c.in-Ok-Some.number c.in-Ok-Some.field-0-is (store_contents c.find_number.new.store)
    (same_contents c.args.store.now c.find_number.new.store c.in-Ok-Some.ensures.leaves.reads.same.same) c.in-Ok-Some-fetch_held.field-0
    (c.in-Ok-Some-fetch_held.ensures.held (subst IsTrue (sym c.find_number.ensures.honest) honest)) c.in-Ok-Some-fetch_held.document
    c.in-Ok-Some-fetch_held.field-0-is

pub returns-in-Ok-Some-fetch_held-clause-text : goal.returns-in-Ok-Some-fetch_held-clause-text
returns-in-Ok-Some-fetch_held-clause-text g c = λ honest.
    held_still (store_contents c.args.store.now) (store_contents c.find_number.new.store) c.in-Ok-Some.number
    (same_contents c.args.store.now c.find_number.new.store c.in-Ok-Some.ensures.leaves.reads.same.same) c.in-Ok-Some-fetch_held.field-0
    (c.in-Ok-Some-fetch_held.ensures.held (subst IsTrue (sym c.find_number.ensures.honest) honest)) c.in-Ok-Some-fetch_held.document
    c.in-Ok-Some-fetch_held.field-0-is

pub returns-in-Ok-Some-fetch_held-clause-ids : goal.returns-in-Ok-Some-fetch_held-clause-ids
returns-in-Ok-Some-fetch_held-clause-ids g c = λ honest before holds.
    holds_still c.find_number.new.store c.fetch_held.new.store c.find_number.new.ids before
    (same_contents c.find_number.new.store c.fetch_held.new.store c.fetch_held.ensures.reads.same) (c.find_number.ensures.ids honest before holds)

pub returns-in-Ok-Some-fetch_held-clause-none : goal.returns-in-Ok-Some-fetch_held-clause-none
returns-in-Ok-Some-fetch_held-clause-none g c = λ honest before holds absent.
    absurd (never_absent c.args.id.now before c.in-Ok-Some.number (sym c.in-Ok-Some.field-0-is ∙ c.in-Ok-Some.ensures.number honest before holds)
    absent)

pub returns-in-Ok-None-fetch_held-clause-found : goal.returns-in-Ok-None-fetch_held-clause-found
returns-in-Ok-None-fetch_held-clause-found g c = λ honest before holds.
    absurd (one_under (store_contents c.find_number.new.store) before (c.find_number.ensures.ids honest before holds).contents.documents
    c.args.id.now c.in-Ok-Some.number (sym c.in-Ok-Some.field-0-is ∙ c.in-Ok-Some.ensures.number honest before holds)
    c.in-Ok-None-fetch_held.field-0 c.in-Ok-None-fetch_held.field-0-is
    (c.in-Ok-None-fetch_held.ensures.held (subst IsTrue (sym c.find_number.ensures.honest) honest)))

pub returns-in-Ok-None-fetch_held-clause-met : goal.returns-in-Ok-None-fetch_held-clause-met
returns-in-Ok-None-fetch_held-clause-met g c = λ honest.
    finds_unheld c.args.ids.now c.args.id.now (store_contents c.args.store.now) c.in-Ok-Some.field-0 (c.in-Ok-Some.ensures.met honest)
    c.in-Ok-Some.number c.in-Ok-Some.field-0-is (store_contents c.find_number.new.store)
    (same_contents c.args.store.now c.find_number.new.store c.in-Ok-Some.ensures.leaves.reads.same.same) c.in-Ok-None-fetch_held.field-0
    (c.in-Ok-None-fetch_held.ensures.held (subst IsTrue (sym c.find_number.ensures.honest) honest)) c.in-Ok-None-fetch_held.field-0-is

pub returns-in-Ok-None-fetch_held-clause-ids : goal.returns-in-Ok-None-fetch_held-clause-ids
returns-in-Ok-None-fetch_held-clause-ids g c = λ honest before holds.
    holds_still c.find_number.new.store c.fetch_held.new.store c.find_number.new.ids before
    (same_contents c.find_number.new.store c.fetch_held.new.store c.fetch_held.ensures.reads.same) (c.find_number.ensures.ids honest before holds)

pub returns-in-Ok-None-fetch_held-clause-none : goal.returns-in-Ok-None-fetch_held-clause-none
returns-in-Ok-None-fetch_held-clause-none g c = λ honest before holds absent.
    absurd (never_absent c.args.id.now before c.in-Ok-Some.number (sym c.in-Ok-Some.field-0-is ∙ c.in-Ok-Some.ensures.number honest before holds)
    absent)

pub returns-in-Err-fetch_held-clause-ids : goal.returns-in-Err-fetch_held-clause-ids
returns-in-Err-fetch_held-clause-ids g c = λ honest before holds.
    holds_still c.find_number.new.store c.fetch_held.new.store c.find_number.new.ids before
    (same_contents c.find_number.new.store c.fetch_held.new.store c.fetch_held.ensures.reads.same) (c.find_number.ensures.ids honest before holds)

pub returns-in-Err-fetch_held-clause-none : goal.returns-in-Err-fetch_held-clause-none
returns-in-Err-fetch_held-clause-none g c = λ honest before holds absent.
    absurd (never_absent c.args.id.now before c.in-Ok-Some.number (sym c.in-Ok-Some.field-0-is ∙ c.in-Ok-Some.ensures.number honest before holds)
    absent)

pub returns-in-Ok-Some-fetch_held-clause-number : goal.returns-in-Ok-Some-fetch_held-clause-number
returns-in-Ok-Some-fetch_held-clause-number g c = λ honest.
    subst (IsLookedUp c.args.ids.now c.args.id.now (store_contents c.args.store.now)) c.in-Ok-Some.field-0-is (c.in-Ok-Some.ensures.met honest)
