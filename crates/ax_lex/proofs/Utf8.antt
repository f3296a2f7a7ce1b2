-- What a text says is UTF-8 where the bytes that it stands in are.
use Rattle.std.proofs.Common.{◌≡◌, ℕ, ◌+◌, ◌<◌, ◌≤◌, ◌==◌, leb, Bool, true, false, cond, List, [], ◌∷◌, ◌++◌, length, drop, get_or, Option, Some, None, refl, ⊎_elim, ap, subst, sym, ◌∙◌, arith, append_assoc, append-nil, length-append}
use Rattle.std.specs.Prelude.{encode_utf8}
use Rattle.std.specs.Char.{IsScalar}
use Rattle.std.specs.Str.{IsUtf8}
use Rattle.std.proofs.Math.Seq.{take-append_seam, drop-append_seam}
use Rattle.std.proofs.lemmas.Bool.{leb-true, le-leb, le-ltb, lt-ltb, lt-leb, ne_eqb, cases_lt, eqb-true}
use Rattle.std.proofs.lemmas.Bool.Decides.{nat_tests}
use Rattle.std.proofs.lemmas.Str.{IsUtf8-append, IsUtf8-take, IsUtf8-drop, IsUtf8-encode, IsCharBoundary-before_ascii, IsCharBoundary-after_ascii, encode_ascii}
use lib.Utf8.{low_scalar}
use Rattle.ax_lex.specs.Inside.{backslash, letter_u, short_escape, is_hex, is_high, is_low, character_of_pair, IsUnit, IsInside}
use Rattle.ax_lex.specs.Inside.IsPiece.{itself, short, unit, pair}
use Rattle.ax_lex.specs.Inside.IsInside.{closed, piece}
use Rattle.ax_lex.specs.declared.class.ByteClass.TheVariants.{Quote, Sign}
use Rattle.ax_lex.specs.Bytes.{class_of}
use Rattle.ax_lex.proofs.Options.{both}

pub record Parts (front rest : List ℕ) : Type 0 where
  pub before : IsUtf8 front
  pub after : IsUtf8 rest

at_seam : (front : List ℕ) (byte : ℕ) (rest : List ℕ)
    → get_or (front ++ byte ∷ rest) (length front) 0 ≡ byte
at_seam [] byte rest = refl
at_seam (first ∷ front) byte rest = at_seam front byte rest

past_seam : (front : List ℕ) (byte : ℕ) (rest : List ℕ)
    → drop (length front + 1) (front ++ byte ∷ rest) ≡ rest
past_seam front byte rest =
    let n : length front + 1 ≡ length (front ++ byte ∷ []) = omega (
      arith,
      length-append front
          (byte ∷ []),
    ) in
    ap (λ k. drop k (front ++ byte ∷ rest)) n
    ∙ ap (drop (length (front ++ byte ∷ []))) (sym (append_assoc front (byte ∷ []) rest))
    ∙ drop-append_seam (front ++ byte ∷ []) rest

-- a byte of ASCII parts a text in two
pub ascii_parts : (front : List ℕ) (byte : ℕ) (rest : List ℕ) → byte < 128
    → IsUtf8 (front ++ byte ∷ rest) → Parts front rest
ascii_parts front byte rest h u =
    let bytes = front ++ byte ∷ rest in
    let long : length front < length bytes = omega (arith, length-append front (byte ∷ rest)) in
    let low : get_or bytes (length front) 0 < 128 = rw (at_seam front byte rest) h in
    record {
      before = subst (λ bs. IsUtf8 bs) (take-append_seam front (byte ∷ rest)) (IsUtf8-take bytes
          (length front) u (IsCharBoundary-before_ascii bytes (length front) long low));
      after = subst (λ bs. IsUtf8 bs) (past_seam front byte rest) (IsUtf8-drop bytes
          (length front + 1) u (IsCharBoundary-after_ascii bytes (length front) u long low));
    }

behind_ascii : (byte : ℕ) (rest : List ℕ) → byte < 128 → IsUtf8 (byte ∷ rest) → IsUtf8 rest
behind_ascii byte rest h u = (ascii_parts [] byte rest h u).after

hex_ascii : (byte : ℕ) → is_hex byte ≡ true → byte < 128
hex_ascii byte h = grind (arith, nat_tests)

record ShortIs (letter byte : ℕ) : Type 0 where
  from : letter < 128
  to : byte < 128

short_step : (letter k v : ℕ) (rest : Option ℕ) (byte : ℕ) → k < 128 → v < 128
    → (rest ≡ Some byte → ShortIs letter byte) → (b : Bool) → (letter == k) ≡ b
    → cond b (Some v) rest ≡ Some byte → ShortIs letter byte
short_step letter k v rest byte hk hv later true l e =
    let same : letter ≡ k = eqb-true letter k l in
    let value : v ≡ byte = cc in
    record { from = omega arith; to = omega arith }
short_step letter k v rest byte hk hv later false l e = later e

short_ascii : (letter byte : ℕ) → short_escape letter ≡ Some byte → ShortIs letter byte
short_ascii letter byte e =
    short_step letter 39 39 _ byte (omega arith) (omega arith)
    (short_step letter 34 34 _ byte (omega arith) (omega arith)
    (short_step letter 92 92 _ byte (omega arith) (omega arith)
    (short_step letter 47 47 _ byte (omega arith) (omega arith)
    (short_step letter 98 8 _ byte (omega arith) (omega arith)
    (short_step letter 102 12 _ byte (omega arith) (omega arith)
    (short_step letter 110 10 _ byte (omega arith) (omega arith)
    (short_step letter 114 13 _ byte (omega arith) (omega arith)
    (short_step letter 116 9 None byte (omega arith) (omega arith)
    (λ e. absurd (cc))
    (letter == 116) refl) (letter == 114) refl) (letter == 110) refl) (letter == 102) refl)
    (letter == 98) refl) (letter == 47) refl) (letter == 92) refl) (letter == 34) refl)
    (letter == 39) refl e

-- what is before a unit, and what is after it
unit_parts : (front : List ℕ) {code : ℕ} {before after : List ℕ} → IsUnit code before after
    → IsUtf8 (front ++ before) → Parts front after
unit_parts front {code} {before} {after} u t =
    let p : Parts front (letter_u ∷ u.first ∷ u.second ∷ u.third ∷ u.fourth ∷ after) =
    ascii_parts front backslash _ (omega arith)
    (subst (λ bs. IsUtf8 (front ++ bs)) u.written t) in
    record {
      before = p.before;
      after =
          behind_ascii u.fourth after (hex_ascii u.fourth u.digits.3)
          (behind_ascii u.third _ (hex_ascii u.third u.digits.2)
          (behind_ascii u.second _ (hex_ascii u.second u.digits.1)
          (behind_ascii u.first _ (hex_ascii u.first u.digits.0) (behind_ascii letter_u _
          (omega arith) p.after))));
    }

pair_scalar : (high low : ℕ) → is_high high ≡ true → is_low low ≡ true
    → IsScalar (character_of_pair high low)
pair_scalar high low h l =
    let a : (leb 55296 high ≡ true) × (leb high 56319 ≡ true) = both (leb 55296 high)
    (leb high 56319) h in
    let b : (leb 56320 low ≡ true) × (leb low 57343 ≡ true) = both (leb 56320 low)
    (leb low 57343) l in
    let high_most : high ≤ 56319 = leb-true high 56319 a.1 in
    let low_most : low ≤ 57343 = leb-true low 57343 b.1 in
    let code = character_of_pair high low in
    rw (
      le-ltb code 55296 (omega arith),
      le-leb 57344 code (omega arith),
      lt-ltb code 1114112
          (omega arith),
    ) refl

-- a character and what is behind it
with_character : (front : List ℕ) (code : ℕ) (value first whole : List ℕ) → IsUtf8 front
    → IsScalar code → IsUtf8 value → first ≡ encode_utf8 code → whole ≡ first ++ value
    → IsUtf8 (front ++ whole)
with_character front code value first whole f s v e w =
    rw (w, e) (IsUtf8-append front (encode_utf8 code ++ value) f (IsUtf8-append
    (encode_utf8 code) value (IsUtf8-encode code s) v))

one_ascii : (byte : ℕ) → byte < 128 → IsUtf8 (byte ∷ [])
one_ascii byte h = subst (λ bs. IsUtf8 bs) (encode_ascii byte h) (IsUtf8-encode byte
    (low_scalar byte (omega arith)))

-- what stands inside a text is UTF-8, with what is before it
pub inside_utf8 : {quote : ℕ} {value before after : List ℕ} → IsInside quote value before after
    → quote < 128 → (front : List ℕ) → IsUtf8 (front ++ before) → IsUtf8 (front ++ value)
inside_utf8 {quote} (closed {byte} {after} e) q front u =
    rw append-nil (ascii_parts front byte after (omega arith) u).before
inside_utf8 {quote} (piece {first} {value} {whole} {before} {between} {after} n
    (itself {byte} b) r w) q front u =
    let there : IsUtf8 ((front ++ byte ∷ []) ++ between) = rw (append_assoc front (byte ∷
    []) between) u in
    let made : IsUtf8 ((front ++ byte ∷ []) ++ value) = inside_utf8 r q (front ++ byte ∷
    []) there in
    rw w (rw (append_assoc front (byte ∷ []) value) at made)
inside_utf8 {quote} (piece {first} {value} {whole} {before} {between} {after} n
    (short {mark} {letter} {byte} m s) r w) q front u =
    let is : ShortIs letter byte = short_ascii letter byte s in
    let parts : Parts front (letter ∷ between) = ascii_parts front mark (letter ∷ between)
    (omega arith) u in
    let made : IsUtf8 value = inside_utf8 r q []
    (behind_ascii letter between is.from parts.after) in
    rw w (IsUtf8-append front (byte ∷ value) parts.before (IsUtf8-append (byte ∷ []) value
    (one_ascii byte is.to) made))
inside_utf8 {quote} (piece {first} {value} {whole} {before} {between} {after} n
    (unit {code} t s v) r w) q front u =
    let parts : Parts front between = unit_parts front t u in
    with_character front code value first whole parts.before s (inside_utf8 r q [] parts.after) v w
inside_utf8 {quote} (piece {first} {value} {whole} {before} {between} {after} n
    (pair {high} {low} {between = middle} t h z l v) r w) q front u =
    let one : Parts front middle = unit_parts front t u in
    let two : Parts [] between = unit_parts [] z one.after in
    with_character front (character_of_pair high low) value first whole one.before
    (pair_scalar high low h l) (inside_utf8 r q [] two.after) v w

-- a byte outside ASCII is no quote
no_quote : (byte : ℕ) → 128 ≤ byte → class_of byte ≡ Quote → ⊥
no_quote byte h c =
    let sign : class_of byte ≡ Sign =
    rw (
      ne_eqb byte 32 (λ e. omega arith),
      ne_eqb byte 9 (λ e. omega arith),
      ne_eqb byte 13 (λ e. omega arith),
      ne_eqb byte 10 (λ e. omega arith),
      le-leb 65 byte (omega arith),
      lt-leb byte 90 (omega arith),
      le-leb 97 byte (omega arith),
      lt-leb byte 122 (omega arith),
      ne_eqb byte 95 (λ e. omega arith),
      le-leb 48 byte (omega arith),
      lt-leb byte 57 (omega arith),
      ne_eqb byte 39 (λ e. omega arith),
      ne_eqb byte 34 (λ e. omega arith),
      ne_eqb byte 64 (λ e. omega arith),
    ) refl
    in cc

-- the two quotes
pub quote_ascii : (quote : ℕ) → class_of quote ≡ Quote → quote < 128
quote_ascii quote c = ⊎_elim (λ h. h) (λ (h : 128 ≤ quote). absurd (no_quote quote h c))
    (cases_lt quote 128)
