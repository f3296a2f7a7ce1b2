-- Reading a token from the front of a list of bytes, as functions on lists that answer what was
-- read and the rest. Only the clauses of private functions, `text_of` and `lexemes_in` cite these:
-- what is read is said by the grammar in `Tokens`.
use Rattle.std.specs.Prelude.{ℕ, Bool, true, false, ◌&&◌, ◌==◌, List, [], ◌∷◌, ◌++◌, Option, Some, None, zero, suc, length, nat_le, option_and_then, encode_utf8, if◌then◌else◌}
use Rattle.std.specs.Option.{option_map}
use lib.Utf8.{scalar}
use Rattle.ax_lex.specs.declared.class.ByteClass.{ByteClass}
use Rattle.ax_lex.specs.declared.class.ByteClass.TheVariants.{Space, Letter, Digit, Quote, At, Sign}
use Rattle.ax_lex.specs.declared.keyword.Keyword.{Keyword}
use Rattle.ax_lex.specs.declared.symbol.Symbol.{Symbol}
use Rattle.ax_lex.specs.declared.token.TokenKind.{TokenKind}
use Rattle.ax_lex.specs.declared.piece.Piece.{Piece}
use Rattle.ax_lex.specs.declared.piece.Piece.TheVariants.{Byte, Character}
use Rattle.ax_lex.specs.Bytes.{class_of, is_letter, is_digit, is_word_byte}
use Rattle.ax_lex.specs.Inside.{backslash, letter_u, short_escape, is_hex, with_digit, is_high, is_low, character_of_pair}
use Rattle.ax_lex.specs.Keywords.{keyword_of}
use Rattle.ax_lex.specs.Lexeme.{Lexeme, kind_of}
use Rattle.ax_lex.specs.Lexeme.Lexeme.{name, keyword, parameter, text, number, symbol}
use Rattle.ax_lex.specs.Symbols.{pair_symbol, single_symbol}
use Rattle.ax_lex.specs.Tokens.{number_of, spoils_number}

abbrev pub is_space_class : ByteClass → Bool
is_space_class Space = true
is_space_class Letter = false
is_space_class Digit = false
is_space_class Quote = false
is_space_class At = false
is_space_class Sign = false

abbrev pub is_space : ℕ → Bool
is_space byte = is_space_class (class_of byte)

-- the longest front of bytes of a class, and what comes after it
abbrev pub stretch_of : (ℕ → Bool) → List ℕ → List ℕ
stretch_of is_in [] = []
stretch_of is_in (byte ∷ rest) = if is_in byte then byte ∷ stretch_of is_in rest else []

abbrev pub after_stretch : (ℕ → Bool) → List ℕ → List ℕ
after_stretch is_in [] = []
after_stretch is_in (byte ∷ rest) = if is_in byte then after_stretch is_in rest else byte ∷ rest

-- the word at the front
abbrev pub read_word : List ℕ → Option (List ℕ × List ℕ)
read_word [] = None
read_word (first ∷ rest) =
    if is_letter first && nat_le (length (first ∷ stretch_of is_word_byte rest)) 255
    then Some (first ∷ stretch_of is_word_byte rest, after_stretch is_word_byte rest) else None

-- the bytes that a piece stands for
abbrev pub piece_bytes : Piece → List ℕ
piece_bytes (Byte byte) = byte ∷ []
piece_bytes (Character code) = encode_utf8 code

-- the bytes after this one, where it is the first
abbrev pub after_byte : ℕ → List ℕ → Option (List ℕ)
after_byte byte [] = None
after_byte byte (first ∷ rest) = if first == byte then Some rest else None

-- a hexadecimal digit at the front, behind those that were read
abbrev pub read_digit : ℕ → List ℕ → Option (ℕ × List ℕ)
read_digit high [] = None
read_digit high (byte ∷ rest) = if is_hex byte then Some (with_digit high byte, rest) else None

-- four of them
unfoldable pub read_digits : List ℕ → Option (ℕ × List ℕ)
read_digits bytes =
    option_and_then (λ a. option_and_then (λ b. option_and_then (λ c. read_digit c.0 c.1)
    (read_digit b.0 b.1)) (read_digit a.0 a.1))
    (read_digit 0 bytes)

-- the unit at the front
unfoldable pub read_unit : List ℕ → Option (ℕ × List ℕ)
read_unit bytes = option_and_then (λ rest. option_and_then read_digits
    (after_byte letter_u rest)) (after_byte backslash bytes)

-- the character of two surrogates
abbrev pub pair_character : ℕ → ℕ → Option ℕ
pair_character high low = if is_high high && is_low low then Some
    (character_of_pair high low) else None

-- the character of this surrogate and the one that follows it at once
unfoldable pub read_second : ℕ → List ℕ → Option (List ℕ × List ℕ)
read_second high bytes =
    option_and_then (λ low. option_map (λ code. (encode_utf8 code, low.1))
    (pair_character high low.0)) (read_unit bytes)

abbrev pub character_at : ℕ × List ℕ → Option (List ℕ × List ℕ)
character_at unit = if scalar unit.0 then Some
    (encode_utf8 unit.0, unit.1) else read_second unit.0 unit.1

-- the character whose number stands at the front, behind `\u`
unfoldable pub read_character : List ℕ → Option (List ℕ × List ℕ)
read_character bytes = option_and_then character_at (read_digits bytes)

-- what an escape stands for whose backslash was read
abbrev pub escaped : Option ℕ → ℕ → List ℕ → Option (List ℕ × List ℕ)
escaped (Some byte) letter rest = Some (byte ∷ [], rest)
escaped None letter rest = if letter == letter_u then read_character rest else None

unfoldable pub read_escape : List ℕ → Option (List ℕ × List ℕ)
read_escape [] = None
read_escape (letter ∷ rest) = escaped (short_escape letter) letter rest

-- the piece at the front
unfoldable pub read_piece : List ℕ → Option (List ℕ × List ℕ)
read_piece [] = None
read_piece (byte ∷ rest) = if byte == backslash then read_escape rest else Some (byte ∷ [], rest)

-- bytes before those that were read
abbrev pub behind : List ℕ → Option (List ℕ × List ℕ) → Option (List ℕ × List ℕ)
behind first None = None
behind first (Some found) = Some (first ++ found.0, found.1)

-- what stands inside a text, up to its quote, in at most so many pieces
unfoldable pub read_inside : ℕ → ℕ → List ℕ → Option (List ℕ × List ℕ)
read_inside quote zero bytes = None
read_inside quote (suc more) [] = None
read_inside quote (suc more) (byte ∷ rest) =
    if byte == quote then Some ([], rest)
    else option_and_then (λ first. behind first.0 (read_inside quote more first.1)) (read_piece
    (byte ∷ rest))

-- what a word says that is this keyword, or none
abbrev pub word_says : Option Keyword → List ℕ → Lexeme
word_says None word = name word
word_says (Some which) word = keyword which word

abbrev pub word_kind : List ℕ → TokenKind
word_kind word = kind_of (word_says (keyword_of word) word)

-- the symbol at the front: two signs, or else one
abbrev pub sign_or : Option Symbol → ℕ → List ℕ → List ℕ → Option (Lexeme × List ℕ)
sign_or (Some which) sign rest after = Some (symbol which, after)
sign_or None sign rest after = option_map (λ which. (symbol which, rest)) (single_symbol sign)

abbrev pub read_symbol : ℕ → List ℕ → Option (Lexeme × List ℕ)
read_symbol sign [] = option_map (λ which. (symbol which, [])) (single_symbol sign)
read_symbol sign (next ∷ rest) = sign_or (pair_symbol sign next) sign (next ∷ rest) rest

-- the number at the front
abbrev pub read_number : ℕ → List ℕ → Option (Lexeme × List ℕ)
read_number first rest =
    if spoils_number (after_stretch is_digit rest) then None
    else Some (number (number_of (first ∷ stretch_of is_digit rest)), after_stretch is_digit rest)

-- the token that a byte of this class begins
abbrev pub read_by : ByteClass → ℕ → List ℕ → Option (Lexeme × List ℕ)
read_by Space first rest = None
read_by Letter first rest = option_map (λ found. (
  word_says
      (keyword_of found.0) found.0,
  found.1,
)) (read_word (first ∷ rest))
read_by Digit first rest = read_number first rest
read_by Quote first rest = option_map (λ found. (text found.0, found.1)) (read_inside first
    (length rest) rest)
read_by At first rest = option_map (λ found. (parameter found.0, found.1)) (read_word rest)
read_by Sign first rest = read_symbol first rest

-- the token at the front
unfoldable pub read_token : List ℕ → Option (Lexeme × List ℕ)
read_token [] = None
read_token (first ∷ rest) = read_by (class_of first) first rest

-- its kind alone, and the bytes after it
abbrev pub with_kind : Option (Lexeme × List ℕ) → Option (TokenKind × List ℕ)
with_kind None = None
with_kind (Some found) = Some (kind_of found.0, found.1)
