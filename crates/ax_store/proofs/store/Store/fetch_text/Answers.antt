use Rattle.std.proofs.Common.{◌≡◌, ℕ, List, refl, ap, ◌∙◌, length, drop, Some, option_map, arith}
use Rattle.std.proofs.lemmas.List.{take_at, length-drop}
use Rattle.ax_store.specs.Rows.{payload_kept, offset_kept}
use Rattle.ax_store.proofs.PartPlaces.{whole_frame, text_readable}
use Rattle.ax_store.specs.Store.{store_parts}
use Rattle.ax_store.proofs.Saying.{text_says, len_by}
use Rattle.ax_store.proofs.StoreLemmas.{agrees_read}
use Rattle.ax_store.proofs.store.Store.fetch_text.Goals as goal

pub returns-clause-text : goal.returns-clause-text
returns-clause-text g c = λ honest.
    let agrees = c.requires.agrees honest c.if-self.false in
    let part = c.in-Some.part.now in
    let is = text_readable g.C.PageCache.pages c.args.self.now _ agrees c.args.self.now.log.small
    (offset_kept part) c.text_place-from.result.0 c.text_place-from.result.1 (payload_kept part) c.args.number
    c.in-Some.ensures.payload c.in-Some.ensures.offset c.text_place-from.ensures.from c.text_place-from.ensures.len in
    let frame = c.read_bytes.new.frame in
    let long : length frame ≡ c.in-Ok.text.len =
    omega (arith, c.read_bytes.auto.frame, ap length c.deref_mut.ensures.value, c.in-Ok.text.ok.0, c.in-Ok.ensures) in
    let same : length frame ≡ length (drop 1 (payload_kept part)) =
    omega (arith, c.read_bytes.auto.frame, ap length c.deref_mut.ensures.value, c.in-Ok.text.ok.0, c.in-Ok.ensures, is.len_is) in
    let whole : frame ≡ drop 1 (payload_kept part) =
    whole_frame frame (drop 1 (payload_kept part)) same
    (is.begins frame (c.in-Ok-read_bytes.ensures.read honest agrees.frames agrees.logged agrees.caches is.within)) in
    ap (λ (bytes : List ℕ). Some bytes) (take_at frame (drop (length frame) c.in-Ok.text.items) c.in-Ok.text.len long ∙ whole)
    ∙ ap (option_map (λ (payload : List ℕ). drop 1 payload)) c.in-Some.ensures.payload
    ∙ text_says (store_parts c.args.self.now) c.args.number

pub returns-clause-reads : goal.returns-clause-reads
returns-clause-reads g c = record {
  same = record { logged = refl; pages = refl };
  agrees = λ honest works.
      let agrees = c.requires.agrees honest works in
      let part = c.in-Some.part.now in
      let is = text_readable g.C.PageCache.pages c.args.self.now _ agrees c.args.self.now.log.small
      (offset_kept part) c.text_place-from.result.0 c.text_place-from.result.1 (payload_kept part) c.args.number
      c.in-Some.ensures.payload c.in-Some.ensures.offset c.text_place-from.ensures.from c.text_place-from.ensures.len in
      agrees_read g.C.PageCache.pages c.args.self.now _ _ _ agrees refl refl
      (c.read_bytes.ensures.caches honest agrees.frames agrees.logged agrees.caches is.within) (c.read_bytes.ensures.lists honest);
  lists = c.read_bytes.ensures.lists;
  never_falls = c.read_bytes.ensures.cause.never_falls;
}

pub returns-in_default-clause-text : goal.returns-in_default-clause-text
returns-in_default-clause-text g c = λ honest.
    ap (option_map (λ (payload : List ℕ). drop 1 payload)) c.in_default.ensures.payload ∙ text_says (store_parts c.args.self.now) c.args.number

pub returns-in_default-clause-len : goal.returns-in_default-clause-len
returns-in_default-clause-len g c =
    len_by (store_parts c.args.self.now) c.args.number _
    (ap (option_map (λ (payload : List ℕ). length (drop 1 payload))) c.in_default.ensures.payload)

pub returns-clause-len : goal.returns-clause-len
returns-clause-len g c =
    let payload = payload_kept c.in-Some.part.now in
    let frame = c.read_bytes.new.frame in
    let long : length frame ≡ c.in-Ok.text.len =
    omega (arith, c.read_bytes.auto.frame, ap length c.deref_mut.ensures.value, c.in-Ok.text.ok.0, c.in-Ok.ensures) in
    let many : length frame ≡ length (drop 1 payload) =
    omega (
      arith,
      c.read_bytes.auto.frame,
      ap length c.deref_mut.ensures.value,
      c.in-Ok.text.ok.0,
      c.in-Ok.ensures,
      c.text_place-from.ensures.len,
      length-drop 1 payload,
    ) in
    len_by (store_parts c.args.self.now) c.args.number _
    (ap (λ (bytes : List ℕ). Some (length bytes)) (take_at frame (drop (length frame) c.in-Ok.text.items) c.in-Ok.text.len long)
    ∙ ap (λ (n : ℕ). Some n) many
    ∙ ap (option_map (λ (payload : List ℕ). length (drop 1 payload))) c.in-Some.ensures.payload)
