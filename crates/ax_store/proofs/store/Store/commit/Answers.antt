use Rattle.std.proofs.Common.{refl, sym, subst, ◌+◌}
use Rattle.ax_frame.specs.Part.{parts_bytes}
use Rattle.ax_log.specs.Commit.{IsCommitSpelling}
use Rattle.ax_store.specs.Putting.{AreWithin, CanTake, Puts}
use Rattle.ax_store.specs.Store.{store_parts}
use Rattle.ax_store.proofs.CanFrames.{can_from}
use Rattle.ax_store.proofs.CommitLemmas.{allowed_within, parts_say, text_of, turns, rests_then, committed}
use Rattle.ax_store.proofs.store.Store.commit.Goals as goal

pub returns-in_default-clause-any_moment : goal.returns-in_default-clause-any_moment
returns-in_default-clause-any_moment g c = λ honest works version told changes new says said lead.
    let agrees = c.requires.agrees honest works in
    let can = can_from c.args.batch.text (c.args.batch.can c.requires.sealed) in
    let text = text_of c.args.batch.frame.items c.args.batch.text can (c.args.batch.spelled c.requires.sealed) in
    turns g.C.PageCache.pages c.args.self.now _ agrees c.args.batch.text can _
    (g.met.D.Disk.reads_may_stay c.args.disk.now (g.D.Disk.attached c.args.disk.now) honest) c.requires.within
    (c.commit.ensures.any_moment honest agrees.frames (parts_bytes c.args.batch.text) agrees.logged
    (subst (λ bytes. IsCommitSpelling bytes (parts_bytes c.args.batch.text)) (sym c.deref.ensures.value) text))
    version told changes new says said lead

pub put_changes-requires-clause-within : goal.put_changes-requires-clause-within
put_changes-requires-clause-within g c =
    let can = can_from c.args.batch.text (c.args.batch.can c.requires.sealed) in
    subst (λ parts. AreWithin parts c.args.self.now.pages.contents) c.args.batch.same
    (allowed_within c.args.batch.text (store_parts c.args.self.now) can.fit c.requires.within)

pub put_changes-requires-clause-deltas : goal.put_changes-requires-clause-deltas
put_changes-requires-clause-deltas g c = subst (λ parts. CanTake parts c.args.self.now.pages) c.args.batch.same c.requires.deltas

pub returns-clause-ok : goal.returns-clause-ok
returns-clause-ok g c =
    let can = can_from c.args.batch.text (c.args.batch.can c.requires.sealed) in
    let puts = subst (λ parts. Puts parts (c.end-at.result + 9) c.args.self.now.pages c.put_changes.new.pages) (sym c.args.batch.same) c.put_changes.ensures in
    parts_say c.args.batch.text (store_parts c.args.self.now) can.fit _ puts.lead

pub returns-clause-agrees : goal.returns-clause-agrees
returns-clause-agrees g c = λ honest.
    let agrees = c.requires.agrees honest c.if-self.false in
    let can = can_from c.args.batch.text (c.args.batch.can c.requires.sealed) in
    let text = text_of c.args.batch.frame.items c.args.batch.text can (c.args.batch.spelled c.requires.sealed) in
    let logged =
    c.in-Ok.ensures.acknowledged honest agrees.frames (parts_bytes c.args.batch.text) agrees.logged
    (subst (λ bytes. IsCommitSpelling bytes (parts_bytes c.args.batch.text)) (sym c.deref.ensures.value) text) in
    let puts = subst (λ parts. Puts parts (c.end-at.result + 9) c.args.self.now.pages c.put_changes.new.pages) (sym c.args.batch.same) c.put_changes.ensures in
    committed g.C.PageCache.pages c.args.self.now _ agrees c.args.batch.text can _ _ logged
    (subst (λ end. Puts c.args.batch.text (end + 9) c.args.self.now.pages c.put_changes.new.pages) c.end-at.ensures puts)
    c.commit.ensures.slot refl

pub returns-clause-any_moment : goal.returns-clause-any_moment
returns-clause-any_moment g c = λ honest works version told changes new says said lead.
    let agrees = c.requires.agrees honest works in
    let can = can_from c.args.batch.text (c.args.batch.can c.requires.sealed) in
    let text = text_of c.args.batch.frame.items c.args.batch.text can (c.args.batch.spelled c.requires.sealed) in
    turns g.C.PageCache.pages c.args.self.now _ agrees c.args.batch.text can _
    (g.met.D.Disk.reads_may_stay c.args.disk.now (g.D.Disk.attached c.args.disk.now) honest) c.requires.within
    (c.commit.ensures.any_moment honest agrees.frames (parts_bytes c.args.batch.text) agrees.logged
    (subst (λ bytes. IsCommitSpelling bytes (parts_bytes c.args.batch.text)) (sym c.deref.ensures.value) text))
    version told changes new says said lead

pub returns-clause-told : goal.returns-clause-told
returns-clause-told g c = λ honest works version told changes new says said lead.
    let agrees = c.requires.agrees honest works in
    let can = can_from c.args.batch.text (c.args.batch.can c.requires.sealed) in
    let text = subst (λ bytes. IsCommitSpelling bytes (parts_bytes c.args.batch.text)) (sym c.deref.ensures.value)
    (text_of c.args.batch.frame.items c.args.batch.text can (c.args.batch.spelled c.requires.sealed)) in
    rests_then g.C.PageCache.pages c.args.self.now _ agrees c.args.batch.text can _
    (g.met.D.Disk.reads_may_stay c.args.disk.now (g.D.Disk.attached c.args.disk.now) honest) c.requires.within
    (c.commit.ensures.any_moment honest agrees.frames (parts_bytes c.args.batch.text) agrees.logged text)
    version told changes new says said lead _
    (c.in-Ok.ensures.acknowledged honest agrees.frames (parts_bytes c.args.batch.text) agrees.logged text)
