-- What stands inside the quotes of a text: characters as they are, and escapes as those of JSON
-- (RFC 8259, section 7), with `\'` besides.
use Rattle.std.specs.Prelude.{◌≡◌, ℕ, ◌+◌, ◌-◌, ◌*◌, Bool, false, true, ◌==◌, List, [], ◌∷◌, ◌++◌, Option, Some, None, encode_utf8, if◌then◌else◌}
use Rattle.std.specs.Char.{IsScalar, digit_value, is_digit as is_digit_of}
use Rattle.ax_lex.specs.Bytes.{is_between}

abbrev pub backslash : ℕ
backslash = 92

-- the `u` of an escape
abbrev pub letter_u : ℕ
letter_u = 117

-- `\'`, `\"`, `\\` and `\/` are the character behind the backslash; then `\b`, `\f`, `\n`, `\r` and
-- `\t`
abbrev pub short_escape : ℕ → Option ℕ
short_escape letter =
    if letter == 39 then Some 39
    else (if letter == 34 then Some 34
    else (if letter == 92 then Some 92
    else (if letter == 47 then Some 47
    else (if letter == 98 then Some 8
    else (if letter == 102 then Some 12
    else (if letter == 110 then Some 10
    else (if letter == 114 then Some 13
    else (if letter == 116 then Some 9 else None))))))))

abbrev pub is_hex : ℕ → Bool
is_hex byte = is_digit_of byte 16

-- a number, and one hexadecimal digit more
abbrev pub with_digit : ℕ → ℕ → ℕ
with_digit high byte = 16 * high + digit_value byte

-- unit = "\u" hex hex hex hex
pub record IsUnit (unit : ℕ) (before after : List ℕ) : Type 0 where
  pub first : ℕ
  pub second : ℕ
  pub third : ℕ
  pub fourth : ℕ
  pub written : before ≡ backslash ∷ letter_u ∷ first ∷ second ∷ third ∷ fourth ∷ after
  pub digits : (is_hex first ≡ true) × (is_hex second ≡ true) × (is_hex third ≡ true) ×
      (is_hex fourth ≡ true)
  pub value : unit ≡ with_digit (with_digit (with_digit (with_digit 0 first) second) third) fourth

-- the two surrogates of a pair, and the character that they are together (The Unicode Standard,
-- section 3.8)
abbrev pub is_high : ℕ → Bool
is_high unit = is_between 0xD800 0xDBFF unit

abbrev pub is_low : ℕ → Bool
is_low unit = is_between 0xDC00 0xDFFF unit

abbrev pub character_of_pair : ℕ → ℕ → ℕ
character_of_pair high low = 0x1_0000 + (high - 0xD800) * 0x400 + (low - 0xDC00)

-- one piece of what stands inside a text, and the bytes that it stands for
pub data IsPiece : (value before after : List ℕ) → Type 0 where
  -- any byte but a backslash: itself
  itself : {byte : ℕ} {after : List ℕ} → (byte == backslash) ≡ false
      → IsPiece (byte ∷ []) (byte ∷ after) after
  -- a backslash, here `mark`, and one of a few characters
  short : {mark letter byte : ℕ} {after : List ℕ} → mark ≡ backslash
      → short_escape letter ≡ Some byte
      → IsPiece (byte ∷ []) (mark ∷ letter ∷ after) after
  -- a unit that is no surrogate: the character with that number
  unit : {code : ℕ} {value before after : List ℕ} → IsUnit code before after → IsScalar code
      → value ≡ encode_utf8 code
      → IsPiece value before after
  -- the two surrogates of a pair, one directly behind the other: their character
  pair : {high low : ℕ} {value before between after : List ℕ}
      → IsUnit high before between → is_high high ≡ true → IsUnit low between after
      → is_low low ≡ true
      → value ≡ encode_utf8 (character_of_pair high low) → IsPiece value before after

-- do the bytes begin with this one
abbrev pub begins_with : ℕ → List ℕ → Bool
begins_with byte [] = false
begins_with byte (first ∷ rest) = first == byte

-- inside = {piece} quote: pieces, none of which begins with the quote, and then the quote
pub data IsInside (quote : ℕ) : (value before after : List ℕ) → Type 0 where
  closed : {byte : ℕ} {after : List ℕ} → byte ≡ quote → IsInside quote [] (byte ∷ after) after
  piece : {first value whole before between after : List ℕ}
      → begins_with quote before ≡ false → IsPiece first before between
      → IsInside quote value between after
      → whole ≡ first ++ value → IsInside quote whole before after
