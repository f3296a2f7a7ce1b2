-- The grammar of tokens: which tokens a query text has, by what is before a token (the bytes from
-- its first on) and what is after it. A token is the longest that may stand at its place, so what
-- may not follow is said with it. The words of the language are those of queries of Azure Cosmos DB
-- for NoSQL.
use Rattle.std.specs.Prelude.{◌≡◌, ℕ, ◌+◌, ◌-◌, ◌*◌, ◌≤◌, Bool, true, false, ◌&&◌, ◌||◌, ◌==◌, nat_le, List, [], ◌∷◌, length, fold, Some, None}
use Rattle.std.specs.List.{list_all}
use Rattle.std.specs.Str.{IsUtf8}
use Rattle.ax_lex.specs.declared.class.ByteClass.TheVariants as class
use Rattle.ax_lex.specs.declared.keyword.Keyword.{Keyword}
use Rattle.ax_lex.specs.declared.symbol.Symbol.{Symbol}
use Rattle.ax_lex.specs.declared.token.Token.{Token}
use Rattle.ax_lex.specs.Bytes.{class_of, is_letter, is_digit, is_word_byte}
use Rattle.ax_lex.specs.Inside.{IsInside}
use Rattle.ax_lex.specs.Keywords.{keyword_of}
use Rattle.ax_lex.specs.Lexeme.{Lexeme, kind_of}
use Rattle.ax_lex.specs.Lexeme.Lexeme.{name, keyword, parameter, text, number, symbol}
use Rattle.ax_lex.specs.Symbols.{pair_symbol, single_symbol, begins_pair}

-- do the bytes begin with one of the class
abbrev pub begins : (ℕ → Bool) → List ℕ → Bool
begins is_in [] = false
begins is_in (byte ∷ rest) = is_in byte

-- a stretch: bytes of a class, as many as there are
pub data IsStretch (is_in : ℕ → Bool) : (stretch before after : List ℕ) → Type 0 where
  ended : {after : List ℕ} → begins is_in after ≡ false → IsStretch is_in [] after after
  more : {byte : ℕ} {stretch before after : List ℕ} → is_in byte ≡ true → IsStretch is_in stretch before after
      → IsStretch is_in (byte ∷ stretch) (byte ∷ before) after

abbrev pub most_of_a_word : ℕ
most_of_a_word = 255

-- the whole text is a word: a letter or `_`, then letters, digits and `_`
abbrev pub is_word : List ℕ → Bool
is_word [] = false
is_word (first ∷ rest) =
    is_letter first && list_all is_word_byte rest && nat_le (length (first ∷ rest)) most_of_a_word

-- word = letter {letter | digit}, of at most 255 bytes
pub data IsWord : (word before after : List ℕ) → Type 0 where
  word : {first : ℕ} {stretch before after : List ℕ} → is_letter first ≡ true
      → IsStretch is_word_byte stretch before after
      → length (first ∷ stretch) ≤ most_of_a_word → IsWord (first ∷ stretch) (first ∷ before) after

-- the value of decimal digits
abbrev pub number_of : List ℕ → ℕ
number_of digits = fold (λ value digit. 10 * value + (digit - 48)) 0 digits

-- a letter, or a point and a digit: neither may stand directly behind a stretch of digits
abbrev pub spoils_number : List ℕ → Bool
spoils_number [] = false
spoils_number (byte ∷ rest) = is_letter byte || (byte == 46 && begins is_digit rest)

pub data IsToken : (lexeme : Lexeme) (before after : List ℕ) → Type 0 where
  -- name = word, but no keyword
  word_as_name : {word before after : List ℕ} → IsWord word before after → keyword_of word ≡ None
      → IsToken (name word) before after
  -- keyword = word
  word_as_keyword : {which : Keyword} {word before after : List ℕ} → IsWord word before after
      → keyword_of word ≡ Some which → IsToken (keyword which word) before after
  -- parameter = "@" word
  at_and_word : {at : ℕ} {word before after : List ℕ} → class_of at ≡ class.At
      → IsWord word before after
      → IsToken (parameter word) (at ∷ before) after
  -- text = quote inside, up to the same quote
  quoted : {quote : ℕ} {value before after : List ℕ} → class_of quote ≡ class.Quote
      → IsInside quote value before after
      → IsToken (text value) (quote ∷ before) after
  -- number = digit {digit}, with nothing behind it that spoils it
  digits : {first value : ℕ} {stretch before after : List ℕ} → class_of first ≡ class.Digit
      → IsStretch is_digit stretch before after
      → spoils_number after ≡ false → value ≡ number_of (first ∷ stretch)
      → IsToken (number value) (first ∷ before) after
  -- symbol = sign sign
  two_signs : {which : Symbol} {sign next : ℕ} {after : List ℕ} → class_of sign ≡ class.Sign
      → pair_symbol sign next ≡ Some which → IsToken (symbol which) (sign ∷ next ∷ after) after
  -- symbol = sign, where it belongs with no sign after it
  one_sign : {which : Symbol} {sign : ℕ} {after : List ℕ} → class_of sign ≡ class.Sign
      → begins_pair sign after ≡ false → single_symbol sign ≡ Some which
      → IsToken (symbol which) (sign ∷ after) after

-- a token stands before these bytes, in a text of so many bytes, and says this
pub record Stands (total : ℕ) (token : Token) (lexeme : Lexeme)
    (before after : List ℕ) : Type 0 where
  pub reads : IsToken lexeme before after
  pub kind : token.kind ≡ kind_of lexeme
  pub start : token.start ≡ total - length before
  pub end : token.end ≡ total - length after

-- tokens = {space | token}, up to the end of a text of so many bytes
pub data HasTokens (total : ℕ) : (before : List ℕ) (tokens : List Token) (lexemes : List Lexeme)
    → Type 0 where
  ended : HasTokens total [] [] []
  space : {byte : ℕ} {before : List ℕ} {tokens : List Token} {lexemes : List Lexeme}
      → class_of byte ≡ class.Space
      → HasTokens total before tokens lexemes → HasTokens total (byte ∷ before) tokens lexemes
  token : {token : Token} {lexeme : Lexeme} {before after : List ℕ} {tokens : List Token}
      {lexemes : List Lexeme}
      → Stands total token lexeme before after → HasTokens total after tokens lexemes
      → HasTokens total before (token ∷ tokens) (lexeme ∷ lexemes)

-- The grammar: the text, which is UTF-8, has these tokens, and they say this.
pub record AreTokens (text : List ℕ) (tokens : List Token) (lexemes : List Lexeme) : Type 0 where
  pub utf8 : IsUtf8 text
  pub reads : HasTokens (length text) text tokens lexemes
