-- One spelling for each frame, and what the readers of frames rest on.
use Rattle.std.proofs.Common.{◌≡◌, ℕ, ◌^◌, ◌<◌, ◌≤◌, List, [], ◌∷◌, ◌++◌, length, take, drop, refl, sym, ap, subst, ◌∙◌, arith}
use Rattle.std.specs.Int.{w64, from_le_bytes}
use Rattle.std.proofs.lemmas.List.{take_at, drop_at, take-append-drop, length-take-le}
use Rattle.std.proofs.lemmas.Nat.{from_le_bytes-to_le_bytes_8}
use Rattle.ax_frame.specs.Part.{PartValue, parts_bytes, AreParts}
use Rattle.ax_frame.specs.LogFrame.{open_head, open_frame, BeginsWithFrame, NoFrame}
use Rattle.ax_frame.specs.View.{parts_in, Spells}
use Rattle.ax_frame.proofs.Parts.{fit_of, spelled_of, seen_as, one_list, are_parts_seen}

-- the bytes that an open head spans, and what follows them
body_of : List ℕ → List ℕ × List ℕ
body_of bytes = (take (from_le_bytes w64 (take 8 (drop 1 bytes))) (drop 9 bytes), drop (from_le_bytes w64 (take 8 (drop 1 bytes))) (drop 9 bytes))

body_again : (body rest : List ℕ) → length body < 2 ^ 64 → body_of (open_frame body ++ rest) ≡ (body, rest)
unfolding body_of
body_again body rest fits =
    let len-is = from_le_bytes-to_le_bytes_8 (length body) fits in
    let seen : ℕ → List ℕ × List ℕ = λ len. (take len (body ++ rest), drop len (body ++ rest)) in
    ap seen len-is ∙ rw (take_at body rest (length body) refl, drop_at body rest (length body) refl) refl

-- two open frames with which the same bytes begin span the same bytes
pub one_body : (a b x y : List ℕ) → length a < 2 ^ 64 → length b < 2 ^ 64 → open_frame a ++ x ≡ open_frame b ++ y → (a ≡ b) × (x ≡ y)
one_body a b x y fa fb e =
    let same : (a, x) ≡ (b, y) = sym (body_again a x fa) ∙ ap body_of e ∙ body_again b y fb in
    (ap (λ (f : List ℕ × List ℕ). f.0) same, ap (λ (f : List ℕ × List ℕ). f.1) same)

-- bytes begin with their head and as many bytes as it says
pub body_found : (bytes head rest : List ℕ) (len : ℕ) → head ≡ take 9 bytes → rest ≡ drop 9 bytes → head ≡ open_head len → len ≤ length rest
    → bytes ≡ open_frame (take len rest) ++ drop len rest
body_found bytes head rest len head-is rest-is says le =
    let whole : bytes ≡ head ++ rest = rw (head-is, rest-is) (sym (take-append-drop 9 bytes)) in
    let spanned : rest ≡ take len rest ++ drop len rest = sym (take-append-drop len rest) in
    whole ∙ ap (λ (body : List ℕ). body ++ rest) says ∙ ap (λ (body : List ℕ). open_head len ++ body) spanned
    ∙ ap (λ (n : ℕ). (open_head n ++ take len rest) ++ drop len rest) (sym (length-take-le len rest le))

pub parts_take_bytes : (ps : List PartValue) → (ps ≡ [] → ⊥) → 0 < length (parts_bytes ps)
parts_take_bytes [] some = absurd (some refl)
parts_take_bytes (p ∷ ps) some = omega arith

some_seen : (bytes : List ℕ) → Spells bytes → 0 < length bytes → parts_in bytes ≡ [] → ⊥
some_seen bytes spells long none =
    let empty : bytes ≡ [] = spelled_of bytes spells ∙ ap parts_bytes none in
    omega (arith, ap length empty)

-- bytes that are parts, at least one of them, are the body of a frame
pub frame_found : (bytes body rest : List ℕ) → 0 < length body → length body < 2 ^ 64 → bytes ≡ open_frame body ++ rest → AreParts body → BeginsWithFrame bytes (parts_in body) rest
frame_found bytes body rest long fits e is =
    let spells = are_parts_seen body is in
    let spelled = spelled_of body spells in
    record {
      can = record { some = some_seen body spells long; fit = fit_of body spells; length_fits = subst (λ (t : List ℕ). length t < 2 ^ 64) spelled fits };
      spelled = e ∙ ap (λ (t : List ℕ). open_frame t ++ rest) spelled;
    }

-- a frame spans what its head says
pub frame_body_is : (bytes body x : List ℕ) (ps : List PartValue) (y : List ℕ) → length body < 2 ^ 64 → bytes ≡ open_frame body ++ x → BeginsWithFrame bytes ps y → body ≡ parts_bytes ps
frame_body_is bytes body x ps y fits e begins = (one_body body (parts_bytes ps) x y fits begins.can.length_fits (sym e ∙ begins.spelled)).0

pub frame_only : (bytes body x : List ℕ) (ps : List PartValue) (y : List ℕ) → length body < 2 ^ 64 → bytes ≡ open_frame body ++ x → BeginsWithFrame bytes ps y → parts_in body ≡ ps
frame_only bytes body x ps y fits e begins = (seen_as body ps begins.can.fit (frame_body_is bytes body x ps y fits e begins)).are

pub frame_spans_parts : (bytes body x : List ℕ) (ps : List PartValue) (y : List ℕ) → length body < 2 ^ 64 → bytes ≡ open_frame body ++ x → BeginsWithFrame bytes ps y → AreParts body
frame_spans_parts bytes body x ps y fits e begins = record { parts = ps; fit = begins.can.fit; spelled = frame_body_is bytes body x ps y fits e begins }

pub frame_is_body : (bytes : List ℕ) → ((body rest : List ℕ) → 0 < length body → length body < 2 ^ 64 → bytes ≡ open_frame body ++ rest → ⊥) → NoFrame bytes
frame_is_body bytes none ps rest begins = none (parts_bytes ps) rest (parts_take_bytes ps begins.can.some) begins.can.length_fits begins.spelled

pub same_frame : (bytes : List ℕ) (ps qs : List PartValue) (x y : List ℕ) → BeginsWithFrame bytes ps x → BeginsWithFrame bytes qs y → (ps ≡ qs) × (x ≡ y)
same_frame bytes ps qs x y p q =
    let one = one_body (parts_bytes ps) (parts_bytes qs) x y p.can.length_fits q.can.length_fits (sym p.spelled ∙ q.spelled) in
    (one_list ps qs p.can.fit q.can.fit one.0, one.1)
