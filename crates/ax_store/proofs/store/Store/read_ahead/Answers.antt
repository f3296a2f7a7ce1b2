use Rattle.std.proofs.Common.{refl, sym, ap, ◌∙◌}
use Rattle.std.specs.Prelude.{is_some}
use Rattle.ax_pages.specs.Area.{frames_bytes}
use Rattle.ax_store.specs.Rows.{payload_kept, offset_kept}
use Rattle.ax_store.specs.Store.{store_parts}
use Rattle.ax_store.proofs.PartPlaces.{text_readable}
use Rattle.ax_store.proofs.AheadLemmas.{ahead_read, same_ahead, is_ahead, stands_same}
use Rattle.ax_store.proofs.Saying.{none_ahead, held_alike}
use Rattle.ax_store.proofs.store.Store.read_ahead.Goals as goal

pub returns-then-show-clause-text : goal.returns-then-show-clause-text
returns-then-show-clause-text g c = λ honest.
    let before = c.requires.agrees honest c.if-self.false in
    let part = c.in-Some.part.now in
    let is = text_readable g.C.PageCache.pages c.args.self.now _ before.agrees c.args.self.now.log.small (offset_kept part)
    c.text_place-from.result.0 c.text_place-from.result.1 (payload_kept part) c.args.number
    c.in-Some.ensures.payload c.in-Some.ensures.offset c.text_place-from.ensures.from c.text_place-from.ensures.len in
    is_ahead c.show.new.self (frames_bytes before.agrees.frames) _ _ _ (payload_kept part) (store_parts c.args.self.now) c.args.number c.in-Some.ensures.payload
    (stands_same c.args.ahead.now c.show.new.self (frames_bytes before.agrees.frames) c.show.ensures.same before.stands)
    c.show.new.self.room (c.show.ensures.shown c.if-show.true) is

pub returns-then-show-clause-agrees : goal.returns-then-show-clause-agrees
returns-then-show-clause-agrees g c = λ honest works.
    same_ahead g.C.PageCache.pages c.args.self.now c.args.ahead.now c.show.new.self _ c.show.ensures.same (c.requires.agrees honest works)

pub returns-in_default-make_room-clause-agrees : goal.returns-in_default-make_room-clause-agrees
returns-in_default-make_room-clause-agrees g c = λ honest works.
    same_ahead g.C.PageCache.pages c.args.self.now c.show.new.self c.make_room.new.self _ c.make_room.ensures.same
    (same_ahead g.C.PageCache.pages c.args.self.now c.args.ahead.now c.show.new.self _ c.show.ensures.same (c.requires.agrees honest works))

pub returns-clause-text : goal.returns-clause-text
returns-clause-text g c = λ honest.
    let before = c.requires.agrees honest c.if-self.false in
    let part = c.in-Some.part.now in
    let is = text_readable g.C.PageCache.pages c.args.self.now _ before.agrees c.args.self.now.log.small (offset_kept part)
    c.text_place-from.result.0 c.text_place-from.result.1 (payload_kept part) c.args.number
    c.in-Some.ensures.payload c.in-Some.ensures.offset c.text_place-from.ensures.from c.text_place-from.ensures.len in
    is_ahead c.fill.new.self (frames_bytes before.agrees.frames) _ _ _ (payload_kept part) (store_parts c.args.self.now) c.args.number c.in-Some.ensures.payload
    (c.in-Ok-fill.ensures.read honest before.agrees.frames before.agrees.logged (c.span_from-span.ensures.within is.within))
    c.fill.new.self.room c.in-Ok-fill.ensures.shown is

pub returns-clause-agrees : goal.returns-clause-agrees
returns-clause-agrees g c = λ honest works.
    let before = c.requires.agrees honest works in
    let part = c.in-Some.part.now in
    let is = text_readable g.C.PageCache.pages c.args.self.now _ before.agrees c.args.self.now.log.small (offset_kept part)
    c.text_place-from.result.0 c.text_place-from.result.1 (payload_kept part) c.args.number
    c.in-Some.ensures.payload c.in-Some.ensures.offset c.text_place-from.ensures.from c.text_place-from.ensures.len in
    ahead_read g.C.PageCache.pages c.args.self.now c.args.self.now c.fill.new.self _ _ before.agrees refl refl refl (c.fill.ensures.lists honest)
    (c.in-Ok-fill.ensures.read honest before.agrees.frames before.agrees.logged (c.span_from-span.ensures.within is.within))

pub returns-in_default-clause-text : goal.returns-in_default-clause-text
returns-in_default-clause-text g c = λ honest. none_ahead (store_parts c.args.self.now) c.args.number _ c.in_default.ensures.payload

pub returns-in_default-clause-found : goal.returns-in_default-clause-found
returns-in_default-clause-found g c = ap is_some c.in_default.ensures.payload ∙ sym (held_alike (store_parts c.args.self.now) c.args.number)

pub returns-then-show-clause-found : goal.returns-then-show-clause-found
returns-then-show-clause-found g c = ap is_some c.in-Some.ensures.payload ∙ sym (held_alike (store_parts c.args.self.now) c.args.number)

pub returns-clause-found : goal.returns-clause-found
returns-clause-found g c = ap is_some c.in-Some.ensures.payload ∙ sym (held_alike (store_parts c.args.self.now) c.args.number)
