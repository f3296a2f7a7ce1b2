-- What a list of lexemes begins with, which lexemes begin an expression of a level, and which go on
-- one: where one of these follows, the expression of that level is longer.
use Rattle.std.specs.Prelude.{ℕ, List, [], ◌∷◌, Bool, true, false, ◌||◌, ◌==◌, nat_le}
use Rattle.ax_lex.specs.declared.keyword.Keyword.{Keyword}
use Rattle.ax_lex.specs.declared.keyword.Keyword.TheVariants as keyword
use Rattle.ax_lex.specs.declared.symbol.Symbol.{Symbol}
use Rattle.ax_lex.specs.declared.symbol.Symbol.TheVariants as symbol
use Rattle.ax_lex.specs.Lexeme.{Lexeme}
use Rattle.ax_grammar.specs.Levels.{Level, distance}
use Rattle.ax_grammar.specs.Takes.{Mark}
use Rattle.ax_grammar.specs.Takes.Mark.{the_symbol, the_keyword}

-- each symbol and each keyword by its number
abbrev pub symbol_number : Symbol → ℕ
symbol_number symbol.Equal = 0
symbol_number symbol.NotEqual = 1
symbol_number symbol.Less = 2
symbol_number symbol.LessEqual = 3
symbol_number symbol.Greater = 4
symbol_number symbol.GreaterEqual = 5
symbol_number symbol.Join = 6
symbol_number symbol.Coalesce = 7
symbol_number symbol.Question = 8
symbol_number symbol.Colon = 9
symbol_number symbol.Plus = 10
symbol_number symbol.Minus = 11
symbol_number symbol.Star = 12
symbol_number symbol.Slash = 13
symbol_number symbol.Percent = 14
symbol_number symbol.Dot = 15
symbol_number symbol.Comma = 16
symbol_number symbol.OpenParenthesis = 17
symbol_number symbol.CloseParenthesis = 18
symbol_number symbol.OpenBracket = 19
symbol_number symbol.CloseBracket = 20
symbol_number symbol.OpenBrace = 21
symbol_number symbol.CloseBrace = 22

abbrev pub keyword_number : Keyword → ℕ
keyword_number keyword.Select = 0
keyword_number keyword.Top = 1
keyword_number keyword.Distinct = 2
keyword_number keyword.Value = 3
keyword_number keyword.As = 4
keyword_number keyword.From = 5
keyword_number keyword.Join = 6
keyword_number keyword.In = 7
keyword_number keyword.Where = 8
keyword_number keyword.Order = 9
keyword_number keyword.By = 10
keyword_number keyword.Asc = 11
keyword_number keyword.Desc = 12
keyword_number keyword.Group = 13
keyword_number keyword.Offset = 14
keyword_number keyword.Limit = 15
keyword_number keyword.And = 16
keyword_number keyword.Or = 17
keyword_number keyword.Not = 18
keyword_number keyword.Between = 19
keyword_number keyword.Like = 20
keyword_number keyword.Null = 21
keyword_number keyword.True = 22
keyword_number keyword.False = 23
keyword_number keyword.Undefined = 24

-- is the lexeme this mark
abbrev pub is_mark : Mark → Lexeme → Bool
is_mark (the_symbol which) (Lexeme.symbol other) = symbol_number which == symbol_number other
is_mark (the_symbol which) _ = false
is_mark (the_keyword which) (Lexeme.keyword other word) =
    keyword_number which == keyword_number other
is_mark (the_keyword which) _ = false

-- does the mark stand first
abbrev pub begins : Mark → List Lexeme → Bool
begins mark [] = false
begins mark (first ∷ rest) = is_mark mark first

abbrev pub begins_with : Symbol → List Lexeme → Bool
begins_with which = begins (the_symbol which)

abbrev pub begins_keyword : Keyword → List Lexeme → Bool
begins_keyword which = begins (the_keyword which)

-- does a step begin: "." or "["
abbrev pub begins_step : List Lexeme → Bool
begins_step lexemes = begins_with symbol.Dot lexemes || begins_with symbol.OpenBracket lexemes

-- does a name stand first
abbrev pub begins_name : List Lexeme → Bool
begins_name [] = false
begins_name (Lexeme.name word ∷ rest) = true
begins_name (_ ∷ rest) = false

-- the distance of the innermost level that a symbol goes on; 12 where it goes on none
abbrev pub symbol_reach : Symbol → ℕ
symbol_reach symbol.OpenParenthesis = 0
symbol_reach symbol.Dot = 1
symbol_reach symbol.OpenBracket = 1
symbol_reach symbol.Star = 3
symbol_reach symbol.Slash = 3
symbol_reach symbol.Percent = 3
symbol_reach symbol.Plus = 4
symbol_reach symbol.Minus = 4
symbol_reach symbol.Join = 5
symbol_reach symbol.Equal = 6
symbol_reach symbol.NotEqual = 6
symbol_reach symbol.Less = 6
symbol_reach symbol.LessEqual = 6
symbol_reach symbol.Greater = 6
symbol_reach symbol.GreaterEqual = 6
symbol_reach symbol.Coalesce = 10
symbol_reach symbol.Question = 11
symbol_reach _ = 12

abbrev pub keyword_reach : Keyword → ℕ
keyword_reach keyword.Not = 6
keyword_reach keyword.In = 6
keyword_reach keyword.Between = 6
keyword_reach keyword.Like = 6
keyword_reach keyword.And = 8
keyword_reach keyword.Or = 9
keyword_reach _ = 12

abbrev pub reach : Lexeme → ℕ
reach (Lexeme.symbol which) = symbol_reach which
reach (Lexeme.keyword which word) = keyword_reach which
reach _ = 12

-- does the lexeme that stands first go on an expression of this level
unfoldable pub extends : Level → List Lexeme → Bool
extends level [] = false
extends level (first ∷ rest) = nat_le (reach first) (distance level)

-- the distance of the innermost level that can begin with a lexeme; 12 where none can
abbrev pub symbol_opening : Symbol → ℕ
symbol_opening symbol.OpenParenthesis = 0
symbol_opening symbol.OpenBracket = 0
symbol_opening symbol.OpenBrace = 0
symbol_opening symbol.Plus = 2
symbol_opening symbol.Minus = 2
symbol_opening _ = 12

abbrev pub keyword_opening : Keyword → ℕ
keyword_opening keyword.Null = 0
keyword_opening keyword.True = 0
keyword_opening keyword.False = 0
keyword_opening keyword.Undefined = 0
keyword_opening keyword.Not = 7
keyword_opening _ = 12

abbrev pub opening : Lexeme → ℕ
opening (Lexeme.name word) = 0
opening (Lexeme.keyword which word) = keyword_opening which
opening (Lexeme.parameter word) = 0
opening (Lexeme.text value) = 0
opening (Lexeme.number value) = 0
opening (Lexeme.symbol which) = symbol_opening which
opening (Lexeme.nothing kind) = 12

-- can an expression of this level begin with the lexeme that stands first
unfoldable pub opens : Level → List Lexeme → Bool
opens level [] = false
opens level (first ∷ rest) = nat_le (opening first) (distance level)
