use Rattle.std.proofs.Common.{ap}
use Rattle.ax_store.specs.Rows.{payload_kept, offset_kept}
use Rattle.ax_store.specs.TermRows.{TermsKept}
use Rattle.ax_store.proofs.ChangedRows.{changed_order, changed_pages, changed_offsets, room_used, row_there}
use Rattle.ax_store.proofs.term_pages.TermPages.put_delta.Goals as goal

pub invariant_of-self : goal.invariant_of-self
invariant_of-self c =
    let pages = ap (λ (kept : TermsKept). kept.pages) c.self.view_is in
    changed_order c.self.inside.rows.items c.args.key c.index_mut.result.now c.put_delta.new.self
    (row_there c.self.inside.rows.items c.args.key c.args.self.now.pages pages c.requires.there)
    c.index_mut.ensures.value c.self.inside.order.items (payload_kept c.args.part) c.args.self.now.pages c.self.invariant pages c.put_delta.ensures.page

pub returns-clause-pages : goal.returns-clause-pages
returns-clause-pages c =
    let pages = ap (λ (kept : TermsKept). kept.pages) c.self.view_is in
    changed_pages c.self.inside.rows.items c.args.key c.index_mut.result.now c.put_delta.new.self
    (row_there c.self.inside.rows.items c.args.key c.args.self.now.pages pages c.requires.there)
    c.index_mut.ensures.value (payload_kept c.args.part) c.args.self.now.pages pages c.put_delta.ensures.page

pub returns-clause-offsets : goal.returns-clause-offsets
returns-clause-offsets c =
    let pages = ap (λ (kept : TermsKept). kept.pages) c.self.view_is in
    changed_offsets c.self.inside.rows.items c.args.key c.index_mut.result.now c.put_delta.new.self
    (row_there c.self.inside.rows.items c.args.key c.args.self.now.pages pages c.requires.there)
    c.index_mut.ensures.value (offset_kept c.args.part) c.args.self.now.offsets (ap (λ (kept : TermsKept). kept.offsets) c.self.view_is)
    c.put_delta.ensures.offsets

pub returns-clause-rooms : goal.returns-clause-rooms
returns-clause-rooms c =
    let pages = ap (λ (kept : TermsKept). kept.pages) c.self.view_is in
    room_used c.self.inside.rows.items c.args.key c.index_mut.result.now c.put_delta.new.self
    (row_there c.self.inside.rows.items c.args.key c.args.self.now.pages pages c.requires.there)
    c.index_mut.ensures.value c.args.self.now.rooms (ap (λ (kept : TermsKept). kept.rooms) c.self.view_is) c.put_delta.ensures.room
