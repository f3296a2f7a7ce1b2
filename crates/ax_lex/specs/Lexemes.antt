-- What the tokens of a text say, from their bytes.
use Rattle.std.specs.Prelude.{ℕ, ◌-◌, List, [], ◌∷◌, Option, Some, None, length, map, drop, take, if◌then◌else◌}
use Rattle.std.specs.Str.{is_utf8}
use Rattle.ax_lex.specs.declared.keyword.Keyword.{Keyword}
use Rattle.ax_lex.specs.declared.symbol.Symbol.{Symbol}
use Rattle.ax_lex.specs.declared.token.Token.{Token}
use Rattle.ax_lex.specs.declared.token.TokenKind.{TokenKind}
use Rattle.ax_lex.specs.declared.token.TokenKind.TheVariants as kind
use Rattle.ax_lex.specs.declared.class.ByteClass.{ByteClass}
use Rattle.ax_lex.specs.declared.class.ByteClass.TheVariants as class
use Rattle.ax_lex.specs.Bytes.{class_of}
use Rattle.ax_lex.specs.Keywords.{keyword_of}
use Rattle.ax_lex.specs.Lexeme.{Lexeme}
use Rattle.ax_lex.specs.Lexeme.Lexeme.{name, keyword, parameter, text, number, symbol, nothing}
use Rattle.ax_lex.specs.Reading.{read_inside}
use Rattle.ax_lex.specs.Symbols.{symbol_of}
use Rattle.ax_lex.specs.Tokens.{number_of}

-- the bytes of a token
abbrev pub bytes_of : List ℕ → Token → List ℕ
bytes_of whole token = take (token.end - token.start) (drop token.start whole)

-- what was read up to the end of the bytes, where it is UTF-8
abbrev pub whole_text : Option (List ℕ × List ℕ) → Option (List ℕ)
whole_text None = None
whole_text (Some (value, [])) = if is_utf8 value then Some value else None
whole_text (Some (value, byte ∷ rest)) = None

abbrev pub text_in : ByteClass → ℕ → List ℕ → Option (List ℕ)
text_in class.Quote quote rest = whole_text (read_inside quote (length rest) rest)
text_in class.Space quote rest = None
text_in class.Letter quote rest = None
text_in class.Digit quote rest = None
text_in class.At quote rest = None
text_in class.Sign quote rest = None

-- what stands in the text that these bytes are
abbrev pub text_of : List ℕ → Option (List ℕ)
text_of [] = None
text_of (quote ∷ rest) = text_in (class_of quote) quote rest

abbrev pub keyword_lexeme : List ℕ → Option Keyword → Lexeme
keyword_lexeme word None = nothing kind.Keyword
keyword_lexeme word (Some which) = keyword which word

abbrev pub text_lexeme : Option (List ℕ) → Lexeme
text_lexeme None = nothing kind.Text
text_lexeme (Some value) = text value

abbrev pub symbol_lexeme : Option Symbol → Lexeme
symbol_lexeme None = nothing kind.Symbol
symbol_lexeme (Some which) = symbol which

-- what bytes say as a token of this kind
abbrev pub lexeme_as : TokenKind → List ℕ → Lexeme
lexeme_as kind.Name bytes = name bytes
lexeme_as kind.Keyword bytes = keyword_lexeme bytes (keyword_of bytes)
lexeme_as kind.Parameter bytes = parameter (drop 1 bytes)
lexeme_as kind.Text bytes = text_lexeme (text_of bytes)
lexeme_as kind.Number bytes = number (number_of bytes)
lexeme_as kind.Symbol bytes = symbol_lexeme (symbol_of bytes)

-- what a token of this text says
abbrev pub lexeme_of : List ℕ → Token → Lexeme
lexeme_of whole token = lexeme_as token.kind (bytes_of whole token)

abbrev pub lexemes_of : List ℕ → List Token → List Lexeme
lexemes_of whole tokens = map (lexeme_of whole) tokens
