-- What a byte outside a text is. White space is the four characters of JSON (RFC 8259, section 2),
-- letters and digits are those of ASCII.
use Rattle.std.specs.Prelude.{ℕ, Bool, true, false, ◌&&◌, ◌||◌, ◌==◌, nat_le, if◌then◌else◌}
use Rattle.ax_lex.specs.declared.class.ByteClass.{ByteClass}
use Rattle.ax_lex.specs.declared.class.ByteClass.TheVariants.{Space, Letter, Digit, Quote, At, Sign}

abbrev pub is_between : ℕ → ℕ → ℕ → Bool
is_between low high byte = nat_le low byte && nat_le byte high

-- space, tab, carriage return, newline; `A` to `Z`, `a` to `z`, `_`; `0` to `9`; `'` and `"`; `@`;
-- any other byte
abbrev pub class_of : ℕ → ByteClass
class_of byte =
    if byte == 32 || byte == 9 || byte == 13 || byte == 10 then Space
    else (if is_between 65 90 byte || is_between 97 122 byte || byte == 95 then Letter
    else (if is_between 48 57 byte then Digit
    else (if byte == 39 || byte == 34 then Quote
    else (if byte == 64 then At else Sign))))

abbrev pub is_letter_class : ByteClass → Bool
is_letter_class Letter = true
is_letter_class Space = false
is_letter_class Digit = false
is_letter_class Quote = false
is_letter_class At = false
is_letter_class Sign = false

abbrev pub is_digit_class : ByteClass → Bool
is_digit_class Digit = true
is_digit_class Space = false
is_digit_class Letter = false
is_digit_class Quote = false
is_digit_class At = false
is_digit_class Sign = false

-- can it begin a word
abbrev pub is_letter : ℕ → Bool
is_letter byte = is_letter_class (class_of byte)

abbrev pub is_digit : ℕ → Bool
is_digit byte = is_digit_class (class_of byte)

-- can it go on a word
abbrev pub is_word_byte : ℕ → Bool
is_word_byte byte = is_letter byte || is_digit byte
