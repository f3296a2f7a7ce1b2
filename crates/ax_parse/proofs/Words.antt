-- The words that tokens of a text say are UTF-8, since their bytes are ASCII.
use Rattle.std.proofs.Common.{◌≡◌, ℕ, ◌<◌, true, List, [], ◌∷◌, subst, arith}
use Rattle.std.specs.Str.{IsUtf8}
use Rattle.std.proofs.lemmas.Bool.Decides.{nat_tests}
use Rattle.std.proofs.lemmas.Str.{IsUtf8-append, IsUtf8-encode, IsUtf8-nil, encode_ascii}
use lib.Utf8.{low_scalar}
use Rattle.ax_lex.specs.declared.token.Token.{Token}
use Rattle.ax_lex.specs.Bytes.{is_letter, is_word_byte}
use Rattle.ax_lex.specs.Lexeme.{Lexeme}
use Rattle.ax_lex.specs.Tokens.{IsStretch, IsWord, IsToken, HasTokens, AreTokens}
use Rattle.ax_lex.specs.Tokens.IsToken.{word_as_name, word_as_keyword, at_and_word, quoted, digits, two_signs, one_sign}
use Rattle.ax_lex.specs.Tokens.IsWord.{word}
use Rattle.ax_parse.specs.Said.{HasUtf8, HaveUtf8}

byte_before : (byte : ℕ) (bytes : List ℕ) → byte < 128 → IsUtf8 bytes → IsUtf8 (byte ∷ bytes)
byte_before byte bytes h u =
    IsUtf8-append (byte ∷ []) bytes (subst (λ bs. IsUtf8 bs) (encode_ascii byte h)
    (IsUtf8-encode byte (low_scalar byte (omega arith)))) u

letter_ascii : (byte : ℕ) → is_letter byte ≡ true → byte < 128
letter_ascii byte h = grind (arith, nat_tests)

word_byte_ascii : (byte : ℕ) → is_word_byte byte ≡ true → byte < 128
word_byte_ascii byte h = grind (arith, nat_tests)

stretch_utf8 : {stretch before after : List ℕ} → IsStretch is_word_byte stretch before after
    → IsUtf8 stretch
stretch_utf8 (IsStretch.ended e) = IsUtf8-nil
stretch_utf8 (IsStretch.more {byte} {stretch} b s) =
    byte_before byte stretch (word_byte_ascii byte b) (stretch_utf8 s)

word_utf8 : {said before after : List ℕ} → IsWord said before after → IsUtf8 said
word_utf8 (word {first} {stretch} l s n) =
    byte_before first stretch (letter_ascii first l) (stretch_utf8 s)

token_utf8 : {lexeme : Lexeme} {before after : List ℕ} → IsToken lexeme before after
    → HasUtf8 lexeme
token_utf8 (word_as_name w n) = word_utf8 w
token_utf8 (word_as_keyword w k) = word_utf8 w
token_utf8 (at_and_word a w) = word_utf8 w
token_utf8 (quoted q i) = tt
token_utf8 (digits d s n v) = tt
token_utf8 (two_signs c p) = tt
token_utf8 (one_sign c b s) = tt

have_utf8 : {total : ℕ} {before : List ℕ} {tokens : List Token} {lexemes : List Lexeme}
    → HasTokens total before tokens lexemes → HaveUtf8 lexemes
have_utf8 HasTokens.ended = tt
have_utf8 (HasTokens.space s h) = have_utf8 h
have_utf8 (HasTokens.token s h) = (token_utf8 s.reads, have_utf8 h)

pub words_utf8 : (text : List ℕ) (tokens : List Token) (lexemes : List Lexeme)
    → AreTokens text tokens lexemes → HaveUtf8 lexemes
words_utf8 text tokens lexemes are = have_utf8 are.reads
