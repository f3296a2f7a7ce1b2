use Rattle.std.proofs.Common.{ap, arith}
use Rattle.ax_store.specs.TermRows.{TermsKept, page_in, offsets_in}
use Rattle.ax_store.proofs.ChangedRows.{order_still, same_shown, room_grown, room_made}
use Rattle.ax_store.proofs.term_pages.TermPages.reserve_deltas.Goals as goal

pub invariant_of-self : goal.invariant_of-self
invariant_of-self c =
    order_still c.self.inside.order.items c.self.inside.rows.items c.args.number c.index_mut.result.now c.reserve.new.self
    (omega (arith, c.if-number-len.true, c.len.ensures))
    c.index_mut.ensures.value c.self.invariant c.reserve.ensures.page

pub returns-then-number-len-clause-room : goal.returns-then-number-len-clause-room
returns-then-number-len-clause-room c =
    room_made c.self.inside.rows.items c.args.number c.index_mut.result.now c.reserve.new.self
    (omega (arith, c.if-number-len.true, c.len.ensures)) c.index_mut.ensures.value
    c.reserve.result c.args.deltas _ c.reserve.ensures.room

pub returns-then-number-len-clause-pages : goal.returns-then-number-len-clause-pages
returns-then-number-len-clause-pages c =
    same_shown c.self.inside.rows.items c.args.number c.index_mut.result.now c.reserve.new.self
    (omega (arith, c.if-number-len.true, c.len.ensures)) c.index_mut.ensures.value
    page_in c.args.self.now.pages (ap (λ (kept : TermsKept). kept.pages) c.self.view_is) c.reserve.ensures.page

pub returns-then-number-len-clause-offsets : goal.returns-then-number-len-clause-offsets
returns-then-number-len-clause-offsets c =
    same_shown c.self.inside.rows.items c.args.number c.index_mut.result.now c.reserve.new.self
    (omega (arith, c.if-number-len.true, c.len.ensures)) c.index_mut.ensures.value
    offsets_in c.args.self.now.offsets (ap (λ (kept : TermsKept). kept.offsets) c.self.view_is) c.reserve.ensures.offsets

pub returns-then-number-len-clause-never_less : goal.returns-then-number-len-clause-never_less
returns-then-number-len-clause-never_less c =
    room_grown c.self.inside.rows.items c.args.number c.index_mut.result.now c.reserve.new.self
    (omega (arith, c.if-number-len.true, c.len.ensures)) c.index_mut.ensures.value
    c.args.self.now.rooms (ap (λ (kept : TermsKept). kept.rooms) c.self.view_is) c.reserve.ensures.never_less
