-- The text of the document of an id is that under the number which the container has for it.
use Rattle.std.proofs.Common.{ap, sym, subst, ◌∙◌}
use Rattle.std.specs.Prelude.{IsTrue, option_map}
use Rattle.std.specs.FinMap as finite
use Rattle.ax_area.specs.Contents.{Contents, Stored}
use Rattle.ax_index.proofs.Unmoved.{same_contents}
use Rattle.ax_store.specs.Store.{store_contents}
use Rattle.ax_write.proofs.FoundNumbers.{holds_still, never_absent}
use Rattle.ax_write.specs.Writes.{IsLookedUp}
use Rattle.ax_documents.proofs.Meeting.{brief_met, look_met}
use Rattle.ax_documents.proofs.Working.{looks_behind, read_met, text_of_id}
use Rattle.ax_documents.proofs.documents.Documents.read.Goals as goal

pub returns-in-Ok-clause-text : goal.returns-in-Ok-clause-text
returns-in-Ok-clause-text g c = λ honest before holds.
    c.in-Ok.ensures.text (subst IsTrue (sym c.find_number.ensures.honest) honest)
    ∙ text_of_id (store_contents c.find_number.new.store) before (c.find_number.ensures.ids honest before holds).contents.documents
    c.args.id.now c.in-Ok-Some.number (sym c.in-Ok-Some.field-0-is ∙ c.in-Ok-Some.ensures.number honest before holds)

pub returns-in-Ok-clause-holds : goal.returns-in-Ok-clause-holds
returns-in-Ok-clause-holds g c = λ honest before holds.
    holds_still c.find_number.new.store c.text_under.new.store c.find_number.new.ids before
    (same_contents c.find_number.new.store c.text_under.new.store c.text_under.ensures.reads.same)
    (c.find_number.ensures.ids honest before holds)

pub returns-in-Ok-clause-none : goal.returns-in-Ok-clause-none
returns-in-Ok-clause-none g c = λ honest before holds absent.
    absurd (never_absent c.args.id.now before c.in-Ok-Some.number (sym c.in-Ok-Some.field-0-is ∙ c.in-Ok-Some.ensures.number honest before holds)
    absent)

pub returns-in-Err-text_under-clause-holds : goal.returns-in-Err-text_under-clause-holds
returns-in-Err-text_under-clause-holds g c = λ honest before holds.
    holds_still c.find_number.new.store c.text_under.new.store c.find_number.new.ids before
    (same_contents c.find_number.new.store c.text_under.new.store c.text_under.ensures.reads.same)
    (c.find_number.ensures.ids honest before holds)

pub returns-in-Err-text_under-clause-none : goal.returns-in-Err-text_under-clause-none
returns-in-Err-text_under-clause-none g c = λ honest before holds absent.
    absurd (never_absent c.args.id.now before c.in-Ok-Some.number (sym c.in-Ok-Some.field-0-is ∙ c.in-Ok-Some.ensures.number honest before holds)
    absent)

pub returns-in-Ok-clause-leaves : goal.returns-in-Ok-clause-leaves
returns-in-Ok-clause-leaves g c =
    looks_behind g.C.PageCache.pages (g.D.Disk.is_honest c.args.disk.now) (g.D.Disk.is_honest c.find_number.new.disk) c.find_number.ensures.honest
    c.in-Ok-Some.field-0 _ c.args.self.now.store c.find_number.new.store c.text_under.new.store _ _ _ _ _ _
    c.in-Ok-Some.ensures.leaves c.in-Ok.ensures.only c.in-Ok.ensures.reads c.in-Ok.ensures.slots c.in-Ok.ensures.fails c.in-Ok.ensures.cause

pub returns-in-Err-text_under-clause-leaves : goal.returns-in-Err-text_under-clause-leaves
returns-in-Err-text_under-clause-leaves g c =
    looks_behind g.C.PageCache.pages (g.D.Disk.is_honest c.args.disk.now) (g.D.Disk.is_honest c.find_number.new.disk) c.find_number.ensures.honest
    c.in-Ok-Some.field-0 _ c.args.self.now.store c.find_number.new.store c.text_under.new.store _ _ _ _ _ _
    c.in-Ok-Some.ensures.leaves c.in-Err-text_under.ensures.only c.in-Err-text_under.ensures.reads
    c.in-Err-text_under.ensures.slots c.in-Err-text_under.ensures.fails c.in-Err-text_under.ensures.cause

pub returns-in-Ok-clause-met : goal.returns-in-Ok-clause-met
returns-in-Ok-clause-met g c = λ honest.
    let same = same_contents c.args.self.now.store c.find_number.new.store c.in-Ok-Some.ensures.leaves.reads.same.same in
    read_met c.args.self.now.ids c.args.id.now (store_contents c.args.self.now.store) c.in-Ok-Some.number c.in-Ok.text
    (subst (IsLookedUp c.args.self.now.ids c.args.id.now (store_contents c.args.self.now.store)) c.in-Ok-Some.field-0-is
    (c.in-Ok-Some.ensures.met honest))
    (c.in-Ok.ensures.text (subst IsTrue (sym c.find_number.ensures.honest) honest)
    ∙ ap (λ (contents : Contents). option_map (λ (document : Stored). document.text) (finite.get contents.documents c.in-Ok-Some.number)) same)

pub returns-in-Err-clause-damage : goal.returns-in-Err-clause-damage
returns-in-Err-clause-damage g c = λ honest.
    look_met g.C.PageCache.pages _ _ _ _ _ _ _ honest (c.requires.works.agrees honest)
    (g.met.D.Disk.reads_may_stay c.args.disk.now (g.D.Disk.attached c.args.disk.now) honest) _ c.in-Err.ensures.leaves

pub returns-in-Err-text_under-clause-damage : goal.returns-in-Err-text_under-clause-damage
returns-in-Err-text_under-clause-damage g c = λ honest. brief_met c.in-Err-text_under.fault _ c.in-Err-text_under.ensures.only
