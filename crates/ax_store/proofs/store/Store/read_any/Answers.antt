use Rattle.std.proofs.Common.{refl, sym, ap, ◌∙◌, length}
use Rattle.ax_pool.specs.Frames.{bytes_at}
use Rattle.ax_store.specs.Rows.{payload_kept, offset_kept}
use Rattle.ax_store.specs.Store.{store_parts}
use Rattle.ax_pages.specs.Contents.{parts_of}
use Rattle.ax_store.proofs.PartPlaces.{got, part_readable}
use Rattle.ax_store.proofs.StoreLemmas.{agrees_read}
use Rattle.ax_store.proofs.store.Store.read_any.Goals as goal

pub returns-clause-read : goal.returns-clause-read
returns-clause-read g c = λ honest.
    let agrees = c.requires.agrees honest c.if-self.false in
    let part = c.in-Some.part.now in
    let is = part_readable g.C.PageCache.pages c.args.self.now _ agrees c.args.self.now.log.small
    (offset_kept part) c.saturating_add-from.result part.len (payload_kept part) c.args.page c.args.i c.requires.part
    c.in-Some.ensures.payload c.in-Some.ensures.offset c.saturating_add-from.ensures part.whole in
    record {
      len_is = is.len_is;
      begins = is.begins (bytes_at c.load.new.pool c.args.slot.now.number) (c.in-Ok.ensures.read honest agrees.frames agrees.logged agrees.caches is.within);
    }

pub returns-clause-len : goal.returns-clause-len
returns-clause-len g c =
    c.in-Some.part.now.whole
    ∙ ap length
    (sym (got (parts_of c.args.page (store_parts c.args.self.now)) c.args.i (payload_kept c.in-Some.part.now) (sym c.in-Some.ensures.payload)))

pub returns-clause-reads : goal.returns-clause-reads
returns-clause-reads g c = record {
  same = record { logged = refl; pages = refl };
  agrees = λ honest works.
      let agrees = c.requires.agrees honest works in
      let part = c.in-Some.part.now in
      let is = part_readable g.C.PageCache.pages c.args.self.now _ agrees c.args.self.now.log.small
      (offset_kept part) c.saturating_add-from.result part.len (payload_kept part) c.args.page c.args.i c.requires.part
      c.in-Some.ensures.payload c.in-Some.ensures.offset c.saturating_add-from.ensures part.whole in
      agrees_read g.C.PageCache.pages c.args.self.now _ _ _ agrees refl refl
      (c.load.ensures.caches honest agrees.frames agrees.logged agrees.caches is.within) (c.load.ensures.lists honest);
  lists = c.load.ensures.lists;
  never_falls = c.load.ensures.cause.never_falls;
}
