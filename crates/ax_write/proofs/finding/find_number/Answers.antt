-- The table tells the number of the container, and so does the index; then it is put into the table.
use Rattle.std.proofs.Common.{Some, None, inl, inr, sym}
use Rattle.ax_index.proofs.Unmoved.{same_contents}
use Rattle.ax_store.specs.Store.{store_contents}
use Rattle.ax_write.proofs.FoundNumbers.{by_index, holds_put, holds_still}
use Rattle.ax_write.proofs.Learning.{learns_put}
use Rattle.ax_write.proofs.Meeting.{tells_index}
use Rattle.ax_write.proofs.finding.find_number.Goals as goal

pub returns-in-Some-clause-number : goal.returns-in-Some-clause-number
returns-in-Some-clause-number g c = λ honest before holds. sym (holds.recent c.args.id.now c.in-Some.number c.in-Some.ensures.found)

pub returns-in-Some-clause-met : goal.returns-in-Some-clause-met
returns-in-Some-clause-met g c = λ honest. inl c.in-Some.ensures.found

pub returns-in-Ok-Some-clause-number : goal.returns-in-Ok-Some-clause-number
returns-in-Ok-Some-clause-number g c = λ honest before holds.
    by_index c.args.store.now c.args.ids.now before c.args.id.now c.in-Ok-Some.field-0 (Some c.in-Ok-Some.number)
    c.in-Ok-Some.field-0-is holds (c.in-Ok-Some.ensures.number honest)

pub returns-in-Ok-Some-clause-met : goal.returns-in-Ok-Some-clause-met
returns-in-Ok-Some-clause-met g c = λ honest.
    inr (tells_index c.args.id.now (store_contents c.args.store.now) c.in-Ok-Some.field-0 (Some c.in-Ok-Some.number) c.in-Ok-Some.field-0-is
    (c.in-Ok-Some.ensures.met honest) (c.in-Ok-Some.ensures.number honest))

pub returns-in-Ok-Some-clause-ids : goal.returns-in-Ok-Some-clause-ids
returns-in-Ok-Some-clause-ids g c = λ honest before holds.
    holds_still c.args.store.now c.number_of.new.store c.remember.new.ids before
    (same_contents c.args.store.now c.number_of.new.store c.number_of.ensures.reads.same.same)
    (holds_put c.args.store.now c.args.ids.now c.remember.new.ids before c.args.id.now c.in-Ok-Some.number c.remember.ensures.1
    (by_index c.args.store.now c.args.ids.now before c.args.id.now c.in-Ok-Some.field-0 (Some c.in-Ok-Some.number)
    c.in-Ok-Some.field-0-is holds (c.in-Ok-Some.ensures.number honest))
    holds)

pub returns-in-Ok-None-clause-number : goal.returns-in-Ok-None-clause-number
returns-in-Ok-None-clause-number g c = λ honest before holds.
    by_index c.args.store.now c.args.ids.now before c.args.id.now c.in-Ok-None.field-0 None c.in-Ok-None.field-0-is holds
    (c.in-Ok-None.ensures.number honest)

pub returns-in-Ok-None-clause-met : goal.returns-in-Ok-None-clause-met
returns-in-Ok-None-clause-met g c = λ honest.
    tells_index c.args.id.now (store_contents c.args.store.now) c.in-Ok-None.field-0 None c.in-Ok-None.field-0-is
    (c.in-Ok-None.ensures.met honest) (c.in-Ok-None.ensures.number honest)

pub returns-in-Ok-Some-clause-learns : goal.returns-in-Ok-Some-clause-learns
returns-in-Ok-Some-clause-learns g c =
    learns_put _ c.args.id.now (store_contents c.args.store.now) c.in-Ok-Some.number c.args.ids.now c.remember.new.ids
    (λ honest. tells_index c.args.id.now (store_contents c.args.store.now) c.in-Ok-Some.field-0 (Some c.in-Ok-Some.number)
    c.in-Ok-Some.field-0-is (c.in-Ok-Some.ensures.met honest) (c.in-Ok-Some.ensures.number honest))
    c.remember.ensures
