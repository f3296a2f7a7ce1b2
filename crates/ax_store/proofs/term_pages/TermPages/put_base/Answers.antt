use Rattle.std.proofs.Common.{ap, arith}
use Rattle.ax_store.specs.TermRows.{TermsKept, base_payload, base_offset}
use Rattle.ax_store.proofs.ChangedRows.{based_order, based_pages, based_offsets, room_grown}
use Rattle.ax_store.proofs.term_pages.TermPages.put_base.Goals as goal

pub invariant_of-self : goal.invariant_of-self
invariant_of-self c =
    based_order c.self.inside.rows.items c.args.key c.index_mut.result.now c.put_base.new.self
    (omega (arith, c.if-key-len.true, c.len.ensures)) c.index_mut.ensures.value
    c.self.inside.order.items (base_payload c.args.base) c.args.self.now.pages c.self.invariant
    (ap (λ (kept : TermsKept). kept.pages) c.self.view_is) c.requires.within
    c.put_base.ensures.page

pub returns-then-key-len-clause-pages : goal.returns-then-key-len-clause-pages
returns-then-key-len-clause-pages c =
    based_pages c.self.inside.rows.items c.args.key c.index_mut.result.now c.put_base.new.self
    (omega (arith, c.if-key-len.true, c.len.ensures)) c.index_mut.ensures.value
    (base_payload c.args.base) c.args.self.now.pages (ap (λ (kept : TermsKept). kept.pages) c.self.view_is) c.put_base.ensures.page

pub returns-then-key-len-clause-offsets : goal.returns-then-key-len-clause-offsets
returns-then-key-len-clause-offsets c =
    based_offsets c.self.inside.rows.items c.args.key c.index_mut.result.now c.put_base.new.self
    (omega (arith, c.if-key-len.true, c.len.ensures)) c.index_mut.ensures.value
    (base_offset c.args.base) c.args.self.now.offsets (ap (λ (kept : TermsKept). kept.offsets) c.self.view_is) c.put_base.ensures.offsets

pub returns-then-key-len-clause-rooms : goal.returns-then-key-len-clause-rooms
returns-then-key-len-clause-rooms c =
    room_grown c.self.inside.rows.items c.args.key c.index_mut.result.now c.put_base.new.self
    (omega (arith, c.if-key-len.true, c.len.ensures)) c.index_mut.ensures.value
    c.args.self.now.rooms (ap (λ (kept : TermsKept). kept.rooms) c.self.view_is) c.put_base.ensures.room
