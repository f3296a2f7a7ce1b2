-- The steps of a walk over an area: what the window shows, what stands at a place, and how far the
-- frames lead.
use Rattle.std.proofs.Common.{◌≡◌, ℕ, ◌+◌, ◌-◌, ◌<◌, ◌≤◌, ◌^◌, List, [], ◌∷◌, ◌++◌, length, get_or, take, drop, Err, refl, sym, ◌∙◌, ap, subst, arith}
use Rattle.std.proofs.Common.{append_assoc, length-append}
use Rattle.std.proofs.lemmas.List.{take_at, drop_at, length-take, length-drop, get_or-take, get_or-drop}
use Rattle.ax_disk.specs.declared.extent.Extent.{Extent}
use Rattle.ax_disk.specs.model.Image.{Image, list_of}
use Rattle.ax_disk.specs.model.Calls.{bytes_from}
use Rattle.ax_disk.specs.laws.ReadLaws.{length-bytes_from, get_or-bytes_from, bytes_from-within, is_bytes_from}
use Rattle.ax_frame.specs.LogFrame.{open_head, open_frame}
use Rattle.ax_frame.proofs.Frames.{body_found}
use Rattle.ax_pages.specs.Area.{frames_bytes, IsClosed, IsNoLogFrame, IsBroken}
use Rattle.ax_pages.specs.laws.AreaLaws.{frames_push, spans_push}
use Rattle.ax_pages.specs.Area.{extent_number}
use Rattle.ax_log.specs.declared.fault.LogFault.{LogFault}
use Rattle.ax_log.specs.declared.fault.LogFault.TheVariants.{Damaged}
use Rattle.ax_log.specs.declared.walk.Next.{Next}
use Rattle.ax_log.specs.declared.window.Window.{Window}
use Rattle.ax_log.specs.Faults.{HasDiskCause}
use Rattle.ax_log.specs.Walk.{Shows, IsFrameOf, IsNext, LeadsTo, EndsAt, IsEndOf}

-- ---- the window

pub shown : (n m : ℕ) (items buf list : List ℕ) (start : ℕ) → length buf ≡ n
    → buf ≡ bytes_from list start m
    → take n (buf ++ drop (length buf) items) ≡ bytes_from list start
    (length (take n (buf ++ drop (length buf) items)))
shown n m items buf list start long read =
    let same : take n (buf ++ drop (length buf) items) ≡ buf = take_at buf
    (drop (length buf) items) n long in
    let size : m ≡ length (take n (buf ++ drop (length buf) items)) = omega
    (arith, ap length same, ap length read, length-bytes_from list start m) in
    same ∙ read ∙ ap (λ (k : ℕ). bytes_from list start k) size

pub head_shown : (items list : List ℕ) (start at from n : ℕ)
    → items ≡ bytes_from list start (length items) → start ≤ at → at + 9 ≤ start + length items
    → from ≡ at - start → n ≡ 9
    → take n (drop from items) ≡ bytes_from list at 9
head_shown items list start at from n shows after within from-is n-is =
    is_bytes_from list at 9 (take n (drop from items))
    (omega (arith, length-take n (drop from items), length-drop from items))
    (λ i below.
    let place : start + (from + i) ≡ at + i = omega arith in
    get_or-take n (drop from items) i 0 (omega arith) ∙ get_or-drop from items i 0
    ∙ ap (λ (l : List ℕ). get_or l (from + i) 0) shows
    ∙ get_or-bytes_from list start (length items) (from + i) (omega arith)
    ∙ ap (λ (k : ℕ). get_or list k 0) place)

-- ---- what stands at a place

pub frame_found : (bytes head : List ℕ) (len left : ℕ) → head ≡ bytes_from bytes 0 9
    → left ≡ length bytes → 9 ≤ left → len ≤ left - 9 → 0 < len → len < 2 ^ 64
    → head ≡ open_head len → IsFrameOf bytes (9 + len)
frame_found bytes head len left read left-is long short some fits is =
    let prefix : open_head len ≡ take 9 bytes = sym is ∙ read
    ∙ bytes_from-within bytes 0 9 (omega arith) in
    let rest = drop 9 bytes in
    let enough : len ≤ length rest = omega (arith, length-drop 9 bytes) in
    let size : length (take len rest) ≡ len = omega (arith, length-take len rest) in
    record {
      span = take len rest;
      rest = drop len rest;
      fits = record {
        some = omega (arith, size);
        fits = subst (λ (k : ℕ). k < 2 ^ 64) (sym size) fits;
      };
      spelled = body_found bytes (open_head len) rest len prefix refl refl enough;
      size_is = omega (arith, size);
    }

-- ---- how far the frames lead

pub leads_start : (bytes : List ℕ) → LeadsTo bytes 0
leads_start bytes = record { frames = []; spans = tt; rest = bytes; spelled = refl; place = refl }

pub left_of : (bytes : List ℕ) (at : ℕ) → (led : LeadsTo bytes at) → drop at bytes ≡ led.rest
left_of bytes at led = ap (drop at) led.spelled
    ∙ drop_at (frames_bytes led.frames) led.rest at (sym led.place)

pub leads_on : (bytes : List ℕ) (at size : ℕ) → LeadsTo bytes at → IsFrameOf (drop at bytes) size
    → LeadsTo bytes (at + size)
leads_on bytes at size led next =
    let frames = led.frames ++ next.span ∷ [] in
    let whole : bytes ≡ frames_bytes led.frames ++ (open_frame next.span ++ next.rest) =
    led.spelled ∙ ap (λ (b : List ℕ). frames_bytes led.frames ++ b)
    (sym (left_of bytes at led) ∙ next.spelled) in
    record {
      frames = frames;
      spans = spans_push led.frames next.span led.spans next.fits;
      rest = next.rest;
      spelled = whole ∙ sym (append_assoc (frames_bytes led.frames)
          (open_frame next.span) next.rest)
          ∙ ap (λ (b : List ℕ). b ++ next.rest) (sym (frames_push led.frames next.span));
      place = omega (
        arith,
        led.place,
        next.size_is,
        ap length (frames_push led.frames next.span),
        length-append (frames_bytes led.frames) (open_frame next.span),
      );
    }

pub ends_there : (bytes : List ℕ) (at : ℕ) → LeadsTo bytes at → IsClosed (drop at bytes)
    → EndsAt bytes at
ends_there bytes at led closed = record {
  frames = led.frames;
  area = record {
    spans = led.spans;
    rest = led.rest;
    spelled = led.spelled;
    closed = subst IsClosed (left_of bytes at led) closed;
  };
  place = led.place;
}

pub broken_there : (bytes : List ℕ) (at : ℕ) → LeadsTo bytes at → (IsClosed (drop at bytes) → ⊥)
    → IsNoLogFrame (drop at bytes) → IsBroken bytes at
broken_there bytes at led opened none = record {
  frames = led.frames;
  spans = led.spans;
  rest = led.rest;
  spelled = led.spelled;
  place = led.place;
  not_closed = subst (λ (b : List ℕ). IsClosed b → ⊥) (left_of bytes at led) opened;
  no_frame = subst IsNoLogFrame (left_of bytes at led) none;
}

-- where the bytes end no gate stands
pub broken_at_end : (bytes : List ℕ) (at : ℕ) → LeadsTo bytes at → length bytes ≤ at
    → IsBroken bytes at
broken_at_end bytes at led past =
    let none : length (drop at bytes) ≡ 0 = omega (arith, length-drop at bytes) in
    broken_there bytes at led (λ closed. omega (arith, closed.0, none))
    (λ span rest fits e. omega (arith, ap length e, none, length-append (open_frame span) rest))

-- ---- the loop

pub follows_there : (list : List ℕ) (at len : ℕ) (head : List ℕ) (next : Next) → len ≡ length list
    → head ≡ bytes_from list at 9
    → ((bytes : List ℕ) → head ≡ bytes_from bytes 0 9 → len - at ≡ length bytes → IsNext bytes next)
    → IsNext (drop at list) next
follows_there list at len head next len-is shown is = is (drop at list) shown
    (omega (arith, len-is, length-drop at list))

pub shows_of : (window : Window) (area : Extent) (one other : Image) → one ≡ other
    → Shows window (list_of area one) → Shows window (list_of area other)
shows_of window area one other same shows = subst
    (λ (i : Image). Shows window (list_of area i)) same shows

pub damaged_told : (area : Extent) (bytes : List ℕ) (at : ℕ) (fault : LogFault)
    → fault ≡ Damaged (extent_number area) at → IsBroken bytes at → IsEndOf area bytes (Err fault)
damaged_told area bytes at fault is broken = subst (λ (f : LogFault). IsEndOf area bytes (Err f))
    (sym is) (refl, broken)

pub no_disk_cause : (fault : LogFault) (extent at before now : ℕ) → fault ≡ Damaged extent at
    → now ≡ before → HasDiskCause {T = ℕ} (Err fault) before now
no_disk_cause fault extent at before now is same =
    subst (λ (f : LogFault). HasDiskCause {T = ℕ} (Err f) before now) (sym is)
    (record { never_falls = omega (arith, same); failed = λ by_disk. absurd by_disk; uncounted = same })
