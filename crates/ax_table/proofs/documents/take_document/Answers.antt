use Rattle.std.proofs.Common.{◌<◌, Some, inl, inr, sym, ap, subst, ◌∙◌}
use Rattle.ax_policy.specs.Table.{count_at}
use Rattle.ax_pages.specs.AfterPart.{most_documents}
use Rattle.ax_store.specs.Store.{store_contents}
use Rattle.ax_table.specs.Filling.{TakesIn}
use Rattle.ax_table.proofs.Answering.{document_refuted, head_document, head_of, head_used}
use Rattle.ax_table.proofs.ReadsLaws.{nothing_read}
use Rattle.ax_table.proofs.TableLaws.{taken_in}
use Rattle.ax_table.proofs.Telling.{needed_told}
use Rattle.ax_table.proofs.documents.take_document.Goals as goal

pub returns-in_default-given_by-clause-told : goal.returns-in_default-given_by-clause-told
returns-in_default-given_by-clause-told g c = λ honest works.
    absurd (document_refuted g.C.PageCache.pages _ c.args.store.now _ c.requires.agrees honest works c.args.number c.in-Some.head.policy
    c.in-Some.ensures.policy c.in_default-given_by.ensures.none)

pub returns-in_default-given_by-clause-reads : goal.returns-in_default-given_by-clause-reads
returns-in_default-given_by-clause-reads g c =
    nothing_read g.C.PageCache.pages _ _ _ c.args.store.now _ _ c.requires.agrees (λ fails. c.damaged_document.ensures fails)

pub returns-in-Err-clause-told : goal.returns-in-Err-clause-told
returns-in-Err-clause-told g c = λ honest works.
    needed_told c.in-Some-given_by.policy c.args.store.now c.in-Err.fault
    (inl (inr (head_used (store_contents c.args.store.now) c.args.number c.in-Some-given_by.policy
    (ap (λ n. Some n) c.in-Some-given_by.ensures.same ∙ c.in-Some.ensures.policy))))
    (c.in-Err.ensures.told honest)

pub count_in-requires-clause-room : goal.count_in-requires-clause-room
count_in-requires-clause-room g c =
    let documents = (store_contents c.args.store.now).documents in
    let head = ap (λ n. Some n) c.in-Some-given_by.ensures.same ∙ c.in-Some.ensures.policy in
    let held = head_document documents c.args.number c.in-Some-given_by.policy head in
    subst (λ n. n < most_documents) (sym (c.in-Ok.ensures.gives.counts c.in-Some-given_by.policy))
    (subst (λ n. count_at c.args.table.now n < most_documents)
    (sym (head_of documents c.args.number c.in-Some-given_by.policy head held.0 held.1)) (c.requires.room held.0 held.1))

pub returns-clause-takes : goal.returns-clause-takes
returns-clause-takes g c = λ document held.
    let documents = (store_contents c.args.store.now).documents in
    let head = ap (λ n. Some n) c.in-Some-given_by.ensures.same ∙ c.in-Some.ensures.policy in
    subst (λ n. TakesIn (g.D.Disk.is_honest c.args.disk.now) n (store_contents c.args.store.now) c.args.table.now c.count_in.new.self)
    (head_of documents c.args.number c.in-Some-given_by.policy head document held)
    (taken_in (g.D.Disk.is_honest c.args.disk.now) c.in-Some-given_by.policy _ _ _ _ c.in-Ok.ensures.gives c.count_in.ensures)
