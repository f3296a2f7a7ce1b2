use Rattle.std.proofs.Common.{ap}
use Rattle.ax_store.specs.TermRows.{TermsKept, base_payload}
use Rattle.ax_store.proofs.ChangedRows.{page_put}
use Rattle.ax_store.proofs.term_pages.TermPages.put_page.Goals as goal

pub invariant_of-self : goal.invariant_of-self
invariant_of-self c =
    let place = rw (c.deref.ensures.value, c.deref-2.ensures.value) at c.place_of-at.ensures in
    page_put c.self.inside.order.items c.self.inside.rows.items c.args.self.now.pages c.len-page.result c.place_of-at.result
    (base_payload c.args.base) c.put_base.new.self
    c.insert_within.new.order.items c.push_reserved.new.self.items c.self.invariant (ap (λ (kept : TermsKept). kept.pages) c.self.view_is) c.requires.within
    place c.len-page.ensures c.put_base.ensures.page c.insert_within.ensures.items c.push_reserved.ensures.items
