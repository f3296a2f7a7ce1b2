use Rattle.std.proofs.Common.{rules, refl, ap, List, ℕ, length, drop, option_map}
use Rattle.ax_pool.specs.Frames.{bytes_at}
use Rattle.ax_store.specs.Rows.{payload_kept, offset_kept}
use Rattle.ax_store.specs.Store.{store_parts, store_slots}
use Rattle.ax_store.proofs.PartPlaces.{text_readable}
use Rattle.ax_store.proofs.Saying.{fetched_says, none_fetched, len_by}
use Rattle.ax_store.proofs.StoreLemmas.{agrees_read}
use Rattle.ax_store.proofs.store.Store.read_text.Goals as goal

pub returns-clause-text : goal.returns-clause-text
returns-clause-text g c = λ honest.
    let agrees = c.requires.agrees honest c.if-self.false in
    let part = c.in-Some.part.now in
    let is = text_readable g.C.PageCache.pages c.args.self.now _ agrees c.args.self.now.log.small
    (offset_kept part) c.text_place-from.result.0 c.text_place-from.result.1 (payload_kept part) c.args.number
    c.in-Some.ensures.payload c.in-Some.ensures.offset c.text_place-from.ensures.from c.text_place-from.ensures.len in
    fetched_says (store_parts c.args.self.now) c.args.number (payload_kept part) c.in-Some.ensures.payload
    c.load.new.pool c.args.slot.now.number c.text_place-from.result.1
    (record {
      len_is = is.len_is;
      begins = is.begins (bytes_at c.load.new.pool c.args.slot.now.number) (c.in-Ok.ensures.read honest agrees.frames agrees.logged agrees.caches is.within);
    })

pub returns-clause-reads : goal.returns-clause-reads
returns-clause-reads g c = record {
  same = record { logged = refl; pages = refl };
  agrees = λ honest works.
      let agrees = c.requires.agrees honest works in
      let part = c.in-Some.part.now in
      let is = text_readable g.C.PageCache.pages c.args.self.now _ agrees c.args.self.now.log.small
      (offset_kept part) c.text_place-from.result.0 c.text_place-from.result.1 (payload_kept part) c.args.number
      c.in-Some.ensures.payload c.in-Some.ensures.offset c.text_place-from.ensures.from c.text_place-from.ensures.len in
      agrees_read g.C.PageCache.pages c.args.self.now _ _ _ agrees refl refl
      (c.load.ensures.caches honest agrees.frames agrees.logged agrees.caches is.within) (c.load.ensures.lists honest);
  lists = c.load.ensures.lists;
  never_falls = c.load.ensures.cause.never_falls;
}

pub returns-in_default-clause-text : goal.returns-in_default-clause-text
returns-in_default-clause-text g c = λ honest.
    none_fetched (store_parts c.args.self.now) c.args.number c.in_default.ensures.payload (store_slots c.args.self.now) c.args.slot.now.number

pub returns-in_default-clause-len : goal.returns-in_default-clause-len
returns-in_default-clause-len g c =
    len_by (store_parts c.args.self.now) c.args.number _
    (ap (option_map (λ (payload : List ℕ). length (drop 1 payload))) c.in_default.ensures.payload)

pub returns-clause-len : goal.returns-clause-len
returns-clause-len g c = len_by (store_parts c.args.self.now) c.args.number _ (search rules)
