-- What a token says: the productions of the query grammar go over lists of these.
use Rattle.std.specs.Prelude.{ℕ, List}
use Rattle.ax_lex.specs.declared.keyword.Keyword.{Keyword}
use Rattle.ax_lex.specs.declared.symbol.Symbol.{Symbol}
use Rattle.ax_lex.specs.declared.token.TokenKind.{TokenKind}
use Rattle.ax_lex.specs.declared.token.TokenKind.TheVariants as kind

pub data Lexeme : Type 0 where
  -- a word that is no keyword
  name : List ℕ → Lexeme
  -- which keyword a word is, and the word as it is written
  keyword : Keyword → List ℕ → Lexeme
  -- the word after the `@`
  parameter : List ℕ → Lexeme
  -- what stands between the quotes, its escapes undone, in UTF-8
  text : List ℕ → Lexeme
  number : ℕ → Lexeme
  symbol : Symbol → Lexeme
  -- what bytes say that are no token of their kind: no token of a text says so
  nothing : TokenKind → Lexeme

abbrev pub kind_of : Lexeme → TokenKind
kind_of (name word) = kind.Name
kind_of (keyword k word) = kind.Keyword
kind_of (parameter word) = kind.Parameter
kind_of (text value) = kind.Text
kind_of (number n) = kind.Number
kind_of (symbol s) = kind.Symbol
kind_of (nothing k) = k
