-- An area has one list of frames, or is broken at one place; and what it says rests on its bytes up
-- to the gate behind the last frame.
use Rattle.std.proofs.Common.{◌≡◌, ℕ, ◌+◌, ◌<◌, ◌≤◌, List, [], ◌∷◌, ◌++◌, length, get_or, take, drop, refl, sym, ◌∙◌, ap, subst, arith, append_assoc}
use Rattle.std.proofs.Common.{length-append}
use Rattle.std.proofs.lemmas.List.{append-nil, take-take, take_at, get_or-take, get_or-drop, get_or-append-add, length-take, take-append-drop, length-drop}
use Rattle.std.proofs.lemmas.List.Concat.{flat_map-append}
use Rattle.ax_frame.specs.Part.{PartValue, parts_bytes}
use Rattle.ax_frame.specs.LogFrame.{open_frame, CanFrame}
use Rattle.ax_frame.proofs.Frames.{one_body, parts_take_bytes}
use Rattle.ax_pages.specs.Area.{IsSpan, AreSpans, frames_bytes, IsClosed, IsNoLogFrame, IsArea, IsBroken}

-- behind a closed gate no frame stands
pub closed_no_frame : (bytes : List ℕ) → IsClosed bytes → IsNoLogFrame bytes
closed_no_frame bytes closed span rest fits e = closed.1 (ap (λ (b : List ℕ). get_or b 0 0) e)

-- Frames up to where none stands are the same frames, and what is left is the same.
pub one_text : (xs ys : List (List ℕ)) (r s : List ℕ) → AreSpans xs → AreSpans ys → IsNoLogFrame r
    → IsNoLogFrame s
    → frames_bytes xs ++ r ≡ frames_bytes ys ++ s → (xs ≡ ys) × (r ≡ s)
one_text [] [] r s fx fy nr ns e = (refl, e)
one_text [] (y ∷ ys) r s fx fy nr ns e =
    absurd (nr y (frames_bytes ys ++ s) fy.0 (e ∙ append_assoc (open_frame y) (frames_bytes ys) s))
one_text (x ∷ xs) [] r s fx fy nr ns e =
    absurd (ns x (frames_bytes xs ++ r) fx.0 (sym e
    ∙ append_assoc (open_frame x) (frames_bytes xs) r))
one_text (x ∷ xs) (y ∷ ys) r s fx fy nr ns e =
    let same = one_body x y (frames_bytes xs ++ r) (frames_bytes ys ++ s) fx.0.fits fy.0.fits
    (sym (append_assoc (open_frame x) (frames_bytes xs) r) ∙ e
    ∙ append_assoc (open_frame y) (frames_bytes ys) s) in
    let more = one_text xs ys r s fx.1 fy.1 nr ns same.1 in
    (ap (λ (z : List ℕ). z ∷ xs) same.0 ∙ ap (λ (zs : List (List ℕ)). y ∷ zs) more.0, more.1)

-- an area has one list of frames
pub one_area : (bytes : List ℕ) (xs ys : List (List ℕ)) → IsArea bytes xs → IsArea bytes ys
    → xs ≡ ys
one_area bytes xs ys a b =
    (one_text xs ys a.rest b.rest a.spans b.spans (closed_no_frame a.rest a.closed)
    (closed_no_frame b.rest b.closed) (sym a.spelled ∙ b.spelled)).0

-- a whole one is not broken
pub area_not_broken : (bytes : List ℕ) (frames : List (List ℕ)) (at : ℕ) → IsArea bytes frames
    → IsBroken bytes at → ⊥
area_not_broken bytes frames at a b =
    let same = one_text frames b.frames a.rest b.rest a.spans b.spans
    (closed_no_frame a.rest a.closed) b.no_frame (sym a.spelled ∙ b.spelled) in
    b.not_closed (subst IsClosed same.1 a.closed)

-- and one that is broken is so at one place
pub one_broken_place : (bytes : List ℕ) (at place : ℕ) → IsBroken bytes at → IsBroken bytes place
    → at ≡ place
one_broken_place bytes at place a b =
    let same = one_text a.frames b.frames a.rest b.rest a.spans b.spans a.no_frame b.no_frame
    (sym a.spelled ∙ b.spelled) in
    a.place ∙ ap (λ (frames : List (List ℕ)). length (frames_bytes frames)) same.0 ∙ sym b.place

-- ---- one frame more

pub frames_push : (frames : List (List ℕ)) (span : List ℕ)
    → frames_bytes (frames ++ span ∷ []) ≡ frames_bytes frames ++ open_frame span
frames_push frames span =
    flat_map-append open_frame frames (span ∷ [])
    ∙ ap (λ (b : List ℕ). frames_bytes frames ++ b) (append-nil (open_frame span))

pub spans_push : (frames : List (List ℕ)) (span : List ℕ) → AreSpans frames → IsSpan span
    → AreSpans (frames ++ span ∷ [])
spans_push [] span all one = (one, tt)
spans_push (f ∷ frames) span all one = (all.0, spans_push frames span all.1 one)

-- ---- what an area rests on

-- the gate stands within the bytes
pub gate_within : (bytes : List ℕ) (frames : List (List ℕ)) → IsArea bytes frames
    → length (frames_bytes frames) < length bytes
gate_within bytes frames area = omega (
  arith,
  ap length area.spelled,
  length-append
      (frames_bytes frames) area.rest,
  area.closed.0,
)

-- Bytes that are the same up to the gate, itself included, have the same frames.
pub area_by_prefix : (bytes others : List ℕ) (frames : List (List ℕ)) (n : ℕ)
    → n ≡ length (frames_bytes frames) + 1 → take n bytes ≡ take n others
    → IsArea others frames → IsArea bytes frames
area_by_prefix bytes others frames n n-is same area =
    let end = length (frames_bytes frames) in
    let long : end < length others = gate_within others frames area in
    let reached : n ≤ length bytes = omega (
      arith,
      ap length same,
      length-take n bytes,
      length-take n others,
    ) in
    let prefix : take end bytes ≡ frames_bytes frames =
    sym (take-take end n bytes (omega arith)) ∙ ap (take end) same
    ∙ take-take end n others (omega arith)
    ∙ ap (take end) area.spelled ∙ take_at (frames_bytes frames) area.rest end refl in
    let gate : get_or (drop end bytes) 0 0 ≡ get_or area.rest 0 0 =
    get_or-drop end bytes 0 0 ∙ sym (get_or-take n bytes (end + 0) 0 (omega arith))
    ∙ ap (λ (b : List ℕ). get_or b (end + 0) 0) same
    ∙ get_or-take n others (end + 0) 0 (omega arith)
    ∙ ap (λ (b : List ℕ). get_or b (end + 0) 0) area.spelled
    ∙ get_or-append-add (frames_bytes frames) area.rest 0 0 in
    record {
      spans = area.spans;
      rest = drop end bytes;
      spelled = sym (take-append-drop end bytes) ∙ ap (λ (b : List ℕ). b ++ drop end bytes) prefix;
      closed = (omega (arith, length-drop end bytes), λ is. area.closed.1 (sym gate ∙ is));
    }

-- what a frame spans that can be written
pub span_of_parts : (ps : List PartValue) → CanFrame ps → IsSpan (parts_bytes ps)
span_of_parts ps can = record { some = parts_take_bytes ps can.some; fits = can.length_fits }
