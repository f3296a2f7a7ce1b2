-- A log frame read in pieces is the log frame; heads, and what is no log frame.
use Rattle.std.proofs.Common.{◌≡◌, ℕ, ◌^◌, ◌<◌, ◌≤◌, List, [], ◌∷◌, ◌++◌, length, take, drop, refl, sym, ap, subst, ◌∙◌, length-append, arith}
use Rattle.std.specs.Prelude.{◌≢◌, slice_index}
use Rattle.std.specs.Int.{w64, from_le_bytes}
use Rattle.std.proofs.lemmas.Nat.{from_le_bytes-to_le_bytes_8}
use Rattle.std.proofs.lemmas.List.{take_at, drop_at, take-append-drop, length-take-le}
use Rattle.ax_frame.specs.declared.log_frame.FrameHead.{FrameHead}
use Rattle.ax_frame.specs.declared.log_frame.FrameHead.TheVariants.{Closed, Frame, Bad}
use Rattle.ax_frame.specs.Part.{PartValue, head_bytes, parts_bytes, AllFit, AreParts}
use Rattle.ax_frame.specs.LogFrame.{open_head, open_frame, frame_bytes, BeginsWithFrame, NoFrame, IsFrameHead}
use Rattle.ax_frame.specs.Pieces.{PartsInPieces, FrameInPieces}
use Rattle.ax_frame.proofs.Frames.{body_found, parts_take_bytes}

-- ---- parts

pub parts_in_pieces : (ps : List PartValue) → AllFit ps → PartsInPieces (parts_bytes ps) ps
parts_in_pieces [] fit = refl
parts_in_pieces (p ∷ ps) fit =
    let payload_is : take (length p.payload) (p.payload ++ parts_bytes ps) ≡ p.payload = take_at p.payload (parts_bytes ps) (length p.payload) refl in
    let behind : drop (length p.payload) (p.payload ++ parts_bytes ps) ≡ parts_bytes ps = drop_at p.payload (parts_bytes ps) (length p.payload) refl in (
      record { spelled = refl; key_fits = fit.0.key_fits; len_fits = omega (arith, fit.0.payload_fits) },
      fit.0.payload_fits,
      payload_is,
      subst (λ (bytes : List ℕ). PartsInPieces bytes ps) (sym behind) (parts_in_pieces ps fit.1),
    )

pub parts_from_pieces : (bytes : List ℕ) (ps : List PartValue) → PartsInPieces bytes ps → AllFit ps × (bytes ≡ parts_bytes ps)
parts_from_pieces bytes [] e = (tt, e)
parts_from_pieces bytes (p ∷ ps) (head, short, payload, others) =
    let more = parts_from_pieces (drop (length p.payload) (drop 9 bytes)) ps others in
    let behind : drop 9 bytes ≡ p.payload ++ parts_bytes ps =
    sym (take-append-drop (length p.payload) (drop 9 bytes)) ∙ rw (payload, more.1) refl in
    let whole : bytes ≡ head_bytes p.kind p.key (length p.payload) ++ (p.payload ++ parts_bytes ps) =
    sym (take-append-drop 9 bytes) ∙ rw (head.spelled, behind) refl in
    ((record { key_fits = head.key_fits; payload_fits = short }, more.0), whole)

pub parts_and_pieces : (bytes : List ℕ) (ps : List PartValue) → (PartsInPieces bytes ps → AllFit ps × (bytes ≡ parts_bytes ps)) × (AllFit ps × (bytes ≡ parts_bytes ps) → PartsInPieces bytes ps)
parts_and_pieces bytes ps = (
  parts_from_pieces bytes ps,
  λ is. subst (λ (t : List ℕ). PartsInPieces t ps) (sym is.1) (parts_in_pieces ps is.0),
)

-- ---- frames

pub frame_in_pieces : (bytes : List ℕ) (ps : List PartValue) (rest : List ℕ) → BeginsWithFrame bytes ps rest → FrameInPieces bytes ps rest
frame_in_pieces bytes ps rest begins =
    let body = parts_bytes ps in
    let after : drop 9 bytes ≡ body ++ rest = ap (drop 9) begins.spelled in
    let before : take 9 bytes ≡ open_head (length body) = ap (take 9) begins.spelled in
    record {
      len = length body;
      head = (parts_take_bytes ps begins.can.some, begins.can.length_fits, before);
      enough = rw after (omega (arith, length-append body rest));
      parts = rw (after, take_at body rest (length body) refl) (parts_in_pieces ps begins.can.fit);
      follows = rw (after, drop_at body rest (length body) refl) refl;
    }

some_from_length : (ps : List PartValue) → 0 < length (parts_bytes ps) → ps ≡ [] → ⊥
some_from_length ps long e = omega (arith, ap (λ (qs : List PartValue). length (parts_bytes qs)) e)

pub frame_from_pieces : (bytes : List ℕ) (ps : List PartValue) (rest : List ℕ) → FrameInPieces bytes ps rest → BeginsWithFrame bytes ps rest
frame_from_pieces bytes ps rest pieces =
    let after = drop 9 bytes in
    let spelled = parts_from_pieces (take pieces.len after) ps pieces.parts in
    let found = body_found bytes (take 9 bytes) after pieces.len refl refl pieces.head.2 pieces.enough in
    let len-is : length (parts_bytes ps) ≡ pieces.len = ap length (sym spelled.1) ∙ length-take-le pieces.len after pieces.enough in
    record {
      can = record { some = some_from_length ps (omega (arith, pieces.head.0)); fit = spelled.0; length_fits = omega (arith, pieces.head.1) };
      spelled = found ∙ ap (λ (body : List ℕ). open_frame body ++ drop pieces.len after) spelled.1 ∙ ap (λ (more : List ℕ). frame_bytes ps ++ more) (sym pieces.follows);
    }

-- ---- heads

-- the length that a head says
len_of : List ℕ → ℕ
len_of bytes = from_le_bytes w64 (take 8 (drop 1 bytes))

one_len : (bytes : List ℕ) (m n : ℕ) → m < 2 ^ 64 → n < 2 ^ 64 → bytes ≡ open_head m → bytes ≡ open_head n → m ≡ n
unfolding len_of
one_len bytes m n fm fn e h =
    sym (from_le_bytes-to_le_bytes_8 m fm) ∙ ap len_of (sym e ∙ h) ∙ from_le_bytes-to_le_bytes_8 n fn

gate_of : (bytes : List ℕ) (n : ℕ) → bytes ≡ open_head n → slice_index bytes 0 ≡ 1
gate_of bytes n e = ap (λ (b : List ℕ). slice_index b 0) e

-- nine bytes are one head of a frame
pub one_head : (bytes : List ℕ) (a b : FrameHead) → IsFrameHead bytes a → IsFrameHead bytes b → a ≡ b
one_head bytes Closed Closed p q = refl
one_head bytes Closed (Frame n) p q = absurd (p (gate_of bytes n q.2))
one_head bytes Closed Bad p q = absurd (p (gate_of bytes 0 q))
one_head bytes (Frame m) Closed p q = absurd (q (gate_of bytes m p.2))
one_head bytes (Frame m) (Frame n) p q = ap Frame (one_len bytes m n p.1 q.1 p.2 q.2)
one_head bytes (Frame m) Bad p q =
    let none : m ≡ 0 = one_len bytes m 0 p.1 (omega arith) p.2 q in absurd (omega (arith, p.0))
one_head bytes Bad Closed p q = absurd (q (gate_of bytes 0 p))
one_head bytes Bad (Frame n) p q =
    let none : n ≡ 0 = one_len bytes n 0 q.1 (omega arith) q.2 p in absurd (omega (arith, q.0))
one_head bytes Bad Bad p q = refl

-- ---- where no frame stands

pub no_frame_short : (bytes : List ℕ) → length bytes < 9 → NoFrame bytes
no_frame_short bytes short ps rest begins = omega (arith, ap length begins.spelled)

pub no_frame_closed : (bytes : List ℕ) → slice_index bytes 0 ≢ 1 → NoFrame bytes
no_frame_closed bytes closed ps rest begins = closed (ap (λ (b : List ℕ). slice_index b 0) begins.spelled)

pub no_frame_bad : (bytes : List ℕ) → IsFrameHead (take 9 bytes) Bad → NoFrame bytes
no_frame_bad bytes bad ps rest begins =
    let pieces = frame_in_pieces bytes ps rest begins in
    cc (one_head (take 9 bytes) Bad (Frame pieces.len) bad pieces.head)

-- the frame spans as many bytes as the head says
span_is : (bytes : List ℕ) (len : ℕ) (ps : List PartValue) (rest : List ℕ) → IsFrameHead (take 9 bytes) (Frame len) → (pieces : FrameInPieces bytes ps rest) → pieces.len ≡ len
span_is bytes len ps rest head pieces = one_len (take 9 bytes) pieces.len len pieces.head.1 head.1 pieces.head.2 head.2

pub no_frame_past : (bytes : List ℕ) (len : ℕ) → IsFrameHead (take 9 bytes) (Frame len) → length (drop 9 bytes) < len → NoFrame bytes
no_frame_past bytes len head past ps rest begins =
    let pieces = frame_in_pieces bytes ps rest begins in
    let same = span_is bytes len ps rest head pieces in
    omega (arith, pieces.enough, same)

pub no_frame_parts : (bytes : List ℕ) (len : ℕ) → IsFrameHead (take 9 bytes) (Frame len) → (AreParts (take len (drop 9 bytes)) → ⊥) → NoFrame bytes
no_frame_parts bytes len head none ps rest begins =
    let pieces = frame_in_pieces bytes ps rest begins in
    let same = span_is bytes len ps rest head pieces in
    let parts = parts_from_pieces (take pieces.len (drop 9 bytes)) ps pieces.parts in
    none (record { parts = ps; fit = parts.0; spelled = ap (λ (n : ℕ). take n (drop 9 bytes)) (sym same) ∙ parts.1 })

-- an open head, as many bytes as it says, and these are parts: a frame
pub frame_by_head : (bytes : List ℕ) (len : ℕ) → IsFrameHead (take 9 bytes) (Frame len) → len ≤ length (drop 9 bytes) → (is : AreParts (take len (drop 9 bytes))) → BeginsWithFrame bytes is.parts (drop len (drop 9 bytes))
frame_by_head bytes len head enough is =
    frame_from_pieces bytes is.parts (drop len (drop 9 bytes))
    (record { len = len; head = head; enough = enough; parts = (parts_and_pieces (take len (drop 9 bytes)) is.parts).1 (is.fit, is.spelled); follows = refl })
