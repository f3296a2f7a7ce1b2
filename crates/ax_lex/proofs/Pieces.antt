-- Pieces of a text: what is read is what the grammar has.
use Rattle.std.proofs.Common.{◌≡◌, ℕ, ◌<◌, ◌≤◌, ◌==◌, ◌&&◌, leb, Bool, true, false, cond, List, [], ◌∷◌, ◌++◌, length, Option, Some, None, refl, ap, subst, sym, ◌∙◌, arith, append_assoc, length-append}
use Rattle.std.specs.Prelude.{encode_utf8}
use Rattle.std.proofs.lemmas.Bool.{eqb-true, leb-true, le-ltb, lt-leb}
use lib.Utf8.{scalar}
use Rattle.ax_lex.specs.Inside.{backslash, letter_u, short_escape, is_hex, with_digit, is_high, is_low, character_of_pair, IsUnit, IsPiece}
use Rattle.ax_lex.specs.Inside.IsPiece.{itself, short, unit, pair}
use Rattle.ax_lex.specs.Reading.{after_byte, read_digit, read_digits, read_unit, read_second, character_at, read_character, escaped, read_escape, read_piece, pair_character}
use Rattle.ax_lex.proofs.Options.{chosen, both, ThenFound, then_found, MapFound, map_found}

after_byte_sound : (byte : ℕ) (bytes rest : List ℕ) → after_byte byte bytes ≡ Some rest
    → bytes ≡ byte ∷ rest
after_byte_sound byte [] rest e = absurd (cc)
after_byte_sound byte (first ∷ bytes) rest e =
    let c : ((first == byte) ≡ true) × (bytes ≡ rest) = chosen _ _ _ e in
    let same : first ≡ byte = eqb-true first byte c.0 in
    rw (same, c.1) refl

record DigitRead (high : ℕ) (bytes : List ℕ) (found : ℕ × List ℕ) : Type 0 where
  byte : ℕ
  written : bytes ≡ byte ∷ found.1
  hex : is_hex byte ≡ true
  value : found.0 ≡ with_digit high byte

digit_sound : (high : ℕ) (bytes : List ℕ) (found : ℕ × List ℕ)
    → read_digit high bytes ≡ Some found → DigitRead high bytes found
digit_sound high [] found e = absurd (cc)
digit_sound high (byte ∷ rest) found e =
    let c : (is_hex byte ≡ true) × ((with_digit high byte, rest) ≡ found) = chosen _ _ _ e in
    record {
      byte = byte;
      written = ap (λ (f : ℕ × List ℕ). byte ∷ f.1) c.1;
      hex = c.0;
      value = sym (ap (λ (f : ℕ × List ℕ). f.0) c.1);
    }

-- four digits that were read
record DigitsRead (bytes : List ℕ) (found : ℕ × List ℕ) : Type 0 where
  a : ℕ
  b : ℕ
  c : ℕ
  d : ℕ
  written : bytes ≡ a ∷ b ∷ c ∷ d ∷ found.1
  hex : (is_hex a ≡ true) × (is_hex b ≡ true) × (is_hex c ≡ true) × (is_hex d ≡ true)
  value : found.0 ≡ with_digit (with_digit (with_digit (with_digit 0 a) b) c) d

written_four : (a b c d : ℕ) (p q r s t : List ℕ) → p ≡ a ∷ q → q ≡ b ∷ r → r ≡ c ∷ s
    → s ≡ d ∷ t → p ≡ a ∷ b ∷ c ∷ d ∷ t
written_four a b c d p q r s t e f g h = rw (e, f, g, h) refl

value_four : (a b c d w x y z : ℕ) → w ≡ with_digit 0 a → x ≡ with_digit w b
    → y ≡ with_digit x c → z ≡ with_digit y d
    → z ≡ with_digit (with_digit (with_digit (with_digit 0 a) b) c) d
value_four a b c d w x y z e f g h = rw (h, g, f, e) refl

digits_sound : (bytes : List ℕ) (found : ℕ × List ℕ) → read_digits bytes ≡ Some found
    → DigitsRead bytes found
unfolding read_digits
digits_sound bytes found e =
    let s : ThenFound _ (read_digit 0 bytes) found = then_found _ (read_digit 0 bytes) found e in
    let a : DigitRead 0 bytes s.x = digit_sound 0 bytes s.x s.first in
    let t : ThenFound _ (read_digit s.x.0 s.x.1) found = then_found _
    (read_digit s.x.0 s.x.1) found s.then in
    let b : DigitRead s.x.0 s.x.1 t.x = digit_sound s.x.0 s.x.1 t.x t.first in
    let u : ThenFound _ (read_digit t.x.0 t.x.1) found = then_found _
    (read_digit t.x.0 t.x.1) found t.then in
    let c : DigitRead t.x.0 t.x.1 u.x = digit_sound t.x.0 t.x.1 u.x u.first in
    let d : DigitRead u.x.0 u.x.1 found = digit_sound u.x.0 u.x.1 found u.then in
    record {
      a = a.byte;
      b = b.byte;
      c = c.byte;
      d = d.byte;
      written = written_four a.byte b.byte c.byte d.byte bytes s.x.1 t.x.1 u.x.1 found.1
          a.written b.written c.written d.written;
      hex = (a.hex, b.hex, c.hex, d.hex);
      value = value_four a.byte b.byte c.byte d.byte s.x.0 t.x.0 u.x.0 found.0
          a.value b.value c.value d.value;
    }

-- behind `\u`
unit_from_digits : (bytes : List ℕ) (found : ℕ × List ℕ) → DigitsRead bytes found
    → IsUnit found.0 (backslash ∷ letter_u ∷ bytes) found.1
unit_from_digits bytes found r = record {
  first = r.a;
  second = r.b;
  third = r.c;
  fourth = r.d;
  written = ap (λ bs. backslash ∷ letter_u ∷ bs) r.written;
  digits = r.hex;
  value = r.value;
}

unit_sound : (bytes : List ℕ) (found : ℕ × List ℕ) → read_unit bytes ≡ Some found
    → IsUnit found.0 bytes found.1
unfolding read_unit
unit_sound bytes found e =
    let s : ThenFound _ (after_byte backslash bytes) found = then_found _
    (after_byte backslash bytes) found e in
    let t : ThenFound _ (after_byte letter_u s.x) found = then_found _
    (after_byte letter_u s.x) found s.then in
    let whole : bytes ≡ backslash ∷ letter_u ∷ t.x =
    after_byte_sound backslash bytes s.x s.first
    ∙ ap (λ bs. backslash ∷ bs) (after_byte_sound letter_u s.x t.x t.first) in
    subst (λ (bs : List ℕ). IsUnit found.0 bs found.1) (sym whole) (unit_from_digits t.x found
    (digits_sound t.x found t.then))

digits_complete : (a b c d : ℕ) (after : List ℕ) → is_hex a ≡ true → is_hex b ≡ true
    → is_hex c ≡ true → is_hex d ≡ true
    → read_digits (a ∷ b ∷ c ∷ d ∷ after) ≡ Some (
      with_digit (with_digit (with_digit
          (with_digit 0 a) b) c) d,
      after,
    )
unfolding read_digits
digits_complete a b c d after p q r s = rw (p, q, r, s) refl

abbrev unit_found : ℕ → List ℕ → Option (ℕ × List ℕ)
unit_found code after = Some (code, after)

-- behind `\u`
unit_digits : {code : ℕ} {before after : List ℕ} → (u : IsUnit code before after)
    → read_digits (u.first ∷ u.second ∷ u.third ∷ u.fourth ∷ after) ≡ unit_found code after
unit_digits {code} {before} {after} u =
    digits_complete u.first u.second u.third u.fourth after
    u.digits.0 u.digits.1 u.digits.2 u.digits.3
    ∙ ap (λ n. unit_found n after) (sym u.value)

unit_complete : {code : ℕ} {before after : List ℕ} → IsUnit code before after
    → read_unit before ≡ unit_found code after
unfolding read_unit
unit_complete {code} {before} {after} u = rw u.written (unit_digits u)

abbrev piece_found : List ℕ → List ℕ → Option (List ℕ × List ℕ)
piece_found value after = Some (value, after)

-- the second unit of a pair
record SecondRead (high : ℕ) (bytes : List ℕ) (found : List ℕ × List ℕ) : Type 0 where
  low : ℕ
  reads : IsUnit low bytes found.1
  is_pair : (is_high high ≡ true) × (is_low low ≡ true)
  value : found.0 ≡ encode_utf8 (character_of_pair high low)

second_sound : (high : ℕ) (bytes : List ℕ) (found : List ℕ × List ℕ)
    → read_second high bytes ≡ Some found → SecondRead high bytes found
unfolding read_second
second_sound high bytes found e =
    let s : ThenFound _ (read_unit bytes) found = then_found _ (read_unit bytes) found e in
    let m : MapFound _ (pair_character high s.x.0) found = map_found _
    (pair_character high s.x.0) found s.then in
    let c : ((is_high high && is_low s.x.0) ≡ true) ×
    (character_of_pair high s.x.0 ≡ m.x) = chosen _ _ _ m.first in
    record {
      low = s.x.0;
      reads = subst (λ (bs : List ℕ). IsUnit s.x.0 bytes bs) (ap (λ (f : List ℕ
          × List ℕ). f.1) m.then) (unit_sound bytes s.x s.first);
      is_pair = both _ _ c.0;
      value = sym (ap (λ (f : List ℕ × List ℕ). f.0) m.then)
          ∙ ap (λ code. encode_utf8 code) (sym c.1);
    }

second_complete : (high : ℕ) {low : ℕ} {bytes after : List ℕ} → is_high high ≡ true
    → IsUnit low bytes after → is_low low ≡ true
    → read_second high bytes ≡ piece_found (encode_utf8 (character_of_pair high low)) after
unfolding read_second
second_complete high h u l = rw (unit_complete u, h, l) refl

-- a unit that was read, with what it leads to
at_unit : (bytes : List ℕ) (code : ℕ × List ℕ) (found : List ℕ × List ℕ) → DigitsRead bytes code
    → (b : Bool) → scalar code.0 ≡ b
    → cond b (Some (encode_utf8 code.0, code.1)) (read_second code.0 code.1) ≡ Some found
    → IsPiece found.0 (backslash ∷ letter_u ∷ bytes) found.1
at_unit bytes code found r true s e =
    let same : (encode_utf8 code.0, code.1) ≡ found = cc in
    subst (λ (f : List ℕ × List ℕ). IsPiece f.0 (backslash ∷ letter_u ∷ bytes) f.1) same
    (unit (unit_from_digits bytes code r) s refl)
at_unit bytes code found r false s e =
    let t : SecondRead code.0 code.1 found = second_sound code.0 code.1 found e in
    pair (unit_from_digits bytes code r) t.is_pair.0 t.reads t.is_pair.1 t.value

character_sound : (bytes : List ℕ) (found : List ℕ × List ℕ) → read_character bytes ≡ Some found
    → IsPiece found.0 (backslash ∷ letter_u ∷ bytes) found.1
unfolding read_character
character_sound bytes found e =
    let s : ThenFound character_at (read_digits bytes) found = then_found character_at
    (read_digits bytes) found e in
    at_unit bytes s.x found (digits_sound bytes s.x s.first) (scalar s.x.0) refl s.then

escaped_sound : (letter : ℕ) (rest : List ℕ) (found : List ℕ × List ℕ) (o : Option ℕ)
    → short_escape letter ≡ o → escaped o letter rest ≡ Some found
    → IsPiece found.0 (backslash ∷ letter ∷ rest) found.1
escaped_sound letter rest found (Some byte) o e =
    let same : (byte ∷ [], rest) ≡ found = cc in
    subst (λ (f : List ℕ × List ℕ). IsPiece f.0 (backslash ∷ letter ∷ rest) f.1) same (short refl o)
escaped_sound letter rest found None o e = by_letter (letter == letter_u) refl e
  where
    by_letter : (b : Bool) → (letter == letter_u) ≡ b
        → cond b (read_character rest) None ≡ Some found
        → IsPiece found.0 (backslash ∷ letter ∷ rest) found.1
    by_letter true l e =
        subst (λ u. IsPiece found.0 (backslash ∷ u ∷ rest) found.1) (sym
        (eqb-true letter letter_u l)) (character_sound rest found e)
    by_letter false l e = absurd (cc)

escape_sound : (bytes : List ℕ) (found : List ℕ × List ℕ) → read_escape bytes ≡ Some found
    → IsPiece found.0 (backslash ∷ bytes) found.1
unfolding read_escape
escape_sound [] found e = absurd (cc)
escape_sound (letter ∷ rest) found e = escaped_sound letter rest found (short_escape letter) refl e

-- what is read as a piece is one
pub piece_sound : (bytes : List ℕ) (found : List ℕ × List ℕ) → read_piece bytes ≡ Some found
    → IsPiece found.0 bytes found.1
unfolding read_piece
piece_sound [] found e = absurd (cc)
piece_sound (byte ∷ rest) found e = by_byte (byte == backslash) refl e
  where
    by_byte : (b : Bool) → (byte == backslash) ≡ b
        → cond b (read_escape rest) (Some (byte ∷ [], rest)) ≡ Some found
        → IsPiece found.0 (byte ∷ rest) found.1
    by_byte true l e =
        subst (λ u. IsPiece found.0 (u ∷ rest) found.1) (sym (eqb-true byte backslash l))
        (escape_sound rest found e)
    by_byte false l e =
        let same : (byte ∷ [], rest) ≡ found = cc in
        subst (λ (f : List ℕ × List ℕ). IsPiece f.0 (byte ∷ rest) f.1) same (itself l)

unit_read : {code : ℕ} {before after : List ℕ} (u : IsUnit code before after)
    → read_piece before ≡ character_at (code, after)
unfolding read_piece read_escape read_character
unit_read {code} {before} {after} u = rw u.written (rw (unit_digits u) refl)

high_no_scalar : (high : ℕ) → is_high high ≡ true → scalar high ≡ false
high_no_scalar high h =
    let b : (leb 55296 high ≡ true) × (leb high 56319 ≡ true) = both (leb 55296 high)
    (leb high 56319) h in
    let low : 55296 ≤ high = leb-true 55296 high b.0 in
    let up : high ≤ 56319 = leb-true high 56319 b.1 in
    rw (le-ltb high 55296 low, lt-leb 57344 high (omega arith)) refl

-- a piece is what is read
pub piece_complete : {value before after : List ℕ} → IsPiece value before after
    → read_piece before ≡ piece_found value after
unfolding read_piece read_escape
piece_complete (itself {byte} e) = rw e refl
piece_complete (short {mark} {letter} {byte} m s) = rw (m, s) refl
piece_complete (unit {code} {value} {before} {after} u s v) = unit_read u ∙ rw (s, v) refl
piece_complete (pair {high} {low} {value} {before} {between} {after} u h t l v) =
    unit_read u ∙ rw (high_no_scalar high h) (second_complete high h t l
    ∙ ap (λ bs. piece_found bs after) (sym v))

pub record PieceTakes (before after : List ℕ) : Type 0 where
  pub byte : ℕ
  pub rest : List ℕ
  pub begins : before ≡ byte ∷ rest
  pub shorter : length after < length before

unit_takes : {code : ℕ} {before after : List ℕ} → IsUnit code before after → PieceTakes before after
unit_takes {code} {before} {after} u = record {
  byte = backslash;
  rest = letter_u ∷ u.first ∷ u.second ∷ u.third ∷ u.fourth ∷ after;
  begins = u.written;
  shorter = rw u.written (omega arith);
}

-- a piece takes a byte or more
pub piece_takes : {value before after : List ℕ} → IsPiece value before after
    → PieceTakes before after
piece_takes (itself {byte} {after} e) =
    record { byte = byte; rest = after; begins = refl; shorter = omega arith }
piece_takes (short {mark} {letter} {byte} {after} m s) =
    record { byte = mark; rest = letter ∷ after; begins = refl; shorter = omega arith }
piece_takes (unit u s v) = unit_takes u
piece_takes (pair {before = before} {between = between} {after = after} u h t l v) =
    let one : PieceTakes before between = unit_takes u in
    let two : PieceTakes between after = unit_takes t in
    record {
      byte = one.byte;
      rest = one.rest;
      begins = one.begins;
      shorter = omega
          (arith, one.shorter, two.shorter);
    }

-- ---- the bytes of a piece alone

pub record PieceFront (value before after : List ℕ) : Type 0 where
  pub front : List ℕ
  pub takes : 0 < length front
  pub whole : before ≡ front ++ after
  -- it is a piece whatever is behind it
  pub piece_before : (rest : List ℕ) → IsPiece value (front ++ rest) rest

record UnitFront (code : ℕ) (before after : List ℕ) : Type 0 where
  front : List ℕ
  takes : 0 < length front
  whole : before ≡ front ++ after
  unit_before : (rest : List ℕ) → IsUnit code (front ++ rest) rest

unit_front : {code : ℕ} {before after : List ℕ} → IsUnit code before after
    → UnitFront code before after
unit_front {code} {before} {after} u = record {
  front = backslash ∷ letter_u ∷ u.first ∷ u.second ∷ u.third ∷ u.fourth ∷ [];
  takes = omega arith;
  whole = u.written;
  unit_before = λ rest. record {
    first = u.first;
    second = u.second;
    third = u.third;
    fourth = u.fourth;
    written = refl;
    digits = u.digits;
    value = u.value;
  };
}

pub piece_front : {value before after : List ℕ} → IsPiece value before after
    → PieceFront value before after
piece_front (itself {byte} e) = record {
  front = byte ∷
      [];
  takes = omega arith;
  whole = refl;
  piece_before = λ rest. itself e;
}
piece_front (short {mark} {letter} {byte} m s) = record {
  front = mark ∷ letter ∷
      [];
  takes = omega arith;
  whole = refl;
  piece_before = λ rest. short m s;
}
piece_front (unit {code} {before = before} {after = after} u s v) =
    let f : UnitFront code before after = unit_front u in
    record {
      front = f.front;
      takes = f.takes;
      whole = f.whole;
      piece_before = λ rest. unit
          (f.unit_before rest) s v;
    }
piece_front (pair {high} {low} {value} {before} {between} {after} u h t l v) =
    let f : UnitFront high before between = unit_front u in
    let g : UnitFront low between after = unit_front t in
    record {
      front = f.front ++ g.front;
      takes = omega (arith, f.takes, length-append f.front g.front);
      whole = f.whole ∙ ap (λ bs. f.front ++ bs) g.whole ∙ sym (append_assoc f.front g.front after);
      piece_before = λ rest. rw (append_assoc f.front g.front rest) (pair (f.unit_before
          (g.front ++ rest)) h (g.unit_before rest) l v);
    }
