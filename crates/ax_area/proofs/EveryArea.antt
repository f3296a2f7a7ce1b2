-- Every area has frames up to a closed gate, or is broken at a place.
use Rattle.std.proofs.Common.{◌≡◌, ◌⊎◌, inl, inr, ⊎_elim, ℕ, zero, suc, ◌+◌, ◌<◌, ◌≤◌, ◌^◌, nat_lt}
use Rattle.std.proofs.Common.{arith, Bool, true, false, List, [], ◌∷◌, ◌++◌, length, take}
use Rattle.std.proofs.Common.{drop, refl, sym, ap, ◌∙◌, length-append}
use Rattle.std.specs.Prelude.{◌&&◌}
use Rattle.std.specs.Int.{w64, from_le_bytes}
use Rattle.std.specs.Str.{bytes_eq}
use Rattle.std.proofs.lemmas.Bool.{and_parts, and_from, ltb-true, lt-ltb, cases_Bool, cases_eq}
use Rattle.std.proofs.lemmas.List.{append_assoc, take_at, drop_at}
use Rattle.std.proofs.lemmas.Nat.{from_le_bytes-to_le_bytes_8}
use Rattle.std.proofs.lemmas.Slice.Eq.{bytes_eq-Decides}
use Rattle.ax_frame.specs.LogFrame.{open_frame}
use Rattle.ax_pages.specs.Area.{IsSpan, frames_bytes, IsClosed, IsNoLogFrame, IsArea}
use Rattle.ax_pages.specs.Area.{IsBroken}

-- what an open head would span, and what would follow
span_of : List ℕ → List ℕ
span_of bytes = take (from_le_bytes w64 (take 8 (drop 1 bytes))) (drop 9 bytes)

rest_of : List ℕ → List ℕ
rest_of bytes = drop (from_le_bytes w64 (take 8 (drop 1 bytes))) (drop 9 bytes)

span_again : (span rest : List ℕ) → length span < 2 ^ 64
    → (span_of (open_frame span ++ rest) ≡ span) × (rest_of (open_frame span ++ rest) ≡ rest)
unfolding span_of rest_of
span_again span rest fits =
    let len = from_le_bytes-to_le_bytes_8 (length span) fits in (
      ap (λ n. take n (span ++ rest)) len ∙ take_at span rest (length span) refl,
      ap
          (λ n. drop n (span ++ rest)) len ∙ drop_at span rest (length span) refl,
    )

is_frame : List ℕ → List ℕ → List ℕ → Bool
is_frame span rest bytes =
    nat_lt 0 (length span) && (nat_lt (length span) (2 ^ 64) && bytes_eq bytes
    (open_frame span ++ rest))

frame_is : (span rest bytes : List ℕ) → is_frame span rest bytes ≡ true → IsSpan span
    × (bytes ≡ open_frame span ++ rest)
unfolding is_frame
frame_is span rest bytes e =
    let one = and_parts (nat_lt 0 (length span)) _ e in
    let two = and_parts (nat_lt (length span) (2 ^ 64)) _ one.1 in (
      record {
        some = ltb-true 0 (length span) one.0;
        fits = ltb-true (length span) (2 ^ 64) two.0;
      },
      (bytes_eq-Decides bytes (open_frame span ++ rest)).0 two.1,
    )

is_framed : (span rest bytes : List ℕ) → IsSpan span → bytes ≡ open_frame span ++ rest
    → is_frame span rest bytes ≡ true
unfolding is_frame
is_framed span rest bytes is e =
    and_from _ _ (lt-ltb 0 (length span) is.some)
    (and_from _ _ (lt-ltb (length span) (2 ^ 64) is.fits)
    ((bytes_eq-Decides bytes (open_frame span ++ rest)).1 e))

no_frame : (bytes : List ℕ) → is_frame (span_of bytes) (rest_of bytes) bytes ≡ false
    → IsNoLogFrame bytes
no_frame bytes e span rest is spelled =
    let again = span_again span rest is.fits in
    let span_is : span_of bytes ≡ span = ap span_of spelled ∙ again.0 in
    let rest_is : rest_of bytes ≡ rest = ap rest_of spelled ∙ again.1 in
    let same : is_frame (span_of bytes) (rest_of bytes) bytes
    ≡ is_frame span rest bytes = λ i. is_frame (span_is i) (rest_is i) bytes in
    cc (sym e ∙ same ∙ is_framed span rest bytes is spelled)

abbrev Outcome : List ℕ → Type 0
Outcome bytes = ((frames : List (List ℕ)) × IsArea bytes frames) ⊎ ((at : ℕ) × IsBroken bytes at)

one_more : (bytes span rest : List ℕ) → IsSpan span → bytes ≡ open_frame span ++ rest → Outcome rest
    → Outcome bytes
one_more bytes span rest is e (inl area) = inl (
  span ∷ area.0,
  record {
    spans = (is, area.1.spans);
    rest = area.1.rest;
    spelled = e ∙ ap (λ more. open_frame span ++ more) area.1.spelled
        ∙ sym (append_assoc (open_frame span) (frames_bytes area.0) area.1.rest);
    closed = area.1.closed;
  },
)
one_more bytes span rest is e (inr broken) = inr (
  length (open_frame span) + broken.0,
  record {
    frames = span ∷ broken.1.frames;
    spans = (is, broken.1.spans);
    rest = broken.1.rest;
    spelled = e ∙ ap (λ more. open_frame span ++ more) broken.1.spelled
        ∙ sym (append_assoc (open_frame span) (frames_bytes broken.1.frames) broken.1.rest);
    place = omega (
      arith,
      broken.1.place,
      length-append (open_frame span)
          (frames_bytes broken.1.frames),
    );
    not_closed = broken.1.not_closed;
    no_frame = broken.1.no_frame;
  },
)

broken_here : (bytes : List ℕ) → (IsClosed bytes → ⊥) → IsNoLogFrame bytes → Outcome bytes
broken_here bytes closed none =
    inr (
      0,
      record {
        frames = [];
        spans = tt;
        rest = bytes;
        spelled = refl;
        place = refl;
        not_closed = closed;
        no_frame = none;
      },
    )

within : (most : ℕ) (bytes : List ℕ) → length bytes ≤ most → Outcome bytes
within zero [] le = broken_here [] (λ closed. omega (arith, closed.0)) (λ span rest is e. absurd cc)
within zero (b ∷ bytes) le = absurd (omega arith)
within (suc most) [] le =
    broken_here [] (λ closed. omega (arith, closed.0)) (λ span rest is e. absurd cc)
within (suc most) (b ∷ more) le =
    let bytes : List ℕ = b ∷ more in
    ⊎_elim
    (λ (gate : b ≡ 1).
    ⊎_elim
    (λ (e : is_frame (span_of bytes) (rest_of bytes) bytes ≡ true).
    let is = frame_is (span_of bytes) (rest_of bytes) bytes e in
    one_more bytes (span_of bytes) (rest_of bytes) is.0 is.1
    (within most (rest_of bytes) (omega (
      arith,
      ap length is.1,
      length-append
          (open_frame (span_of bytes)) (rest_of bytes),
    ))))
    (λ (e : is_frame (span_of bytes) (rest_of bytes) bytes ≡ false). broken_here bytes
    (λ closed. closed.1 gate) (no_frame bytes e))
    (cases_Bool (is_frame (span_of bytes) (rest_of bytes) bytes)))
    (λ (gate : b ≡ 1 → ⊥).
    let it : Outcome bytes = inl (
      [],
      record {
        spans = tt;
        rest = bytes;
        spelled = refl;
        closed =
            (omega arith, gate);
      },
    ) in it)
    (cases_eq b 1)

pub every_area : (bytes : List ℕ) → ((frames : List (List ℕ)) × IsArea bytes frames)
    ⊎ ((at : ℕ) × IsBroken bytes at)
every_area bytes = within (length bytes) bytes (omega arith)
