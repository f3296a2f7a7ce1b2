-- The symbols: two signs that belong together, and single signs.
use Rattle.std.specs.Prelude.{ℕ, Bool, false, ◌&&◌, ◌==◌, List, [], ◌∷◌, Option, Some, None, is_some, if◌then◌else◌}
use Rattle.std.specs.Str.{byte}
use Rattle.ax_lex.specs.declared.symbol.Symbol.{Symbol}
use Rattle.ax_lex.specs.declared.symbol.Symbol.TheVariants as symbol

-- `!=` and `<>`, `<=`, `>=`, `||`, `??`
abbrev pub pair_symbol : ℕ → ℕ → Option Symbol
pair_symbol sign next =
    if sign == byte "!" && next == byte "=" then Some symbol.NotEqual
    else (if sign == byte "<" && next == byte ">" then Some symbol.NotEqual
    else (if sign == byte "<" && next == byte "=" then Some symbol.LessEqual
    else (if sign == byte ">" && next == byte "=" then Some symbol.GreaterEqual
    else (if sign == byte "|" && next == byte "|" then Some symbol.Join
    else (if sign == byte "?" && next == byte "?" then Some symbol.Coalesce
    else None)))))

-- `= < > ? : + - * / % . , ( ) [ ] { }`
abbrev pub single_symbol : ℕ → Option Symbol
single_symbol sign =
    if sign == byte "=" then Some symbol.Equal
    else (if sign == byte "<" then Some symbol.Less
    else (if sign == byte ">" then Some symbol.Greater
    else (if sign == byte "?" then Some symbol.Question
    else (if sign == byte ":" then Some symbol.Colon
    else (if sign == byte "+" then Some symbol.Plus
    else (if sign == byte "-" then Some symbol.Minus
    else (if sign == byte "*" then Some symbol.Star
    else (if sign == byte "/" then Some symbol.Slash
    else (if sign == byte "%" then Some symbol.Percent
    else (if sign == byte "." then Some symbol.Dot
    else (if sign == byte "," then Some symbol.Comma
    else (if sign == byte "(" then Some symbol.OpenParenthesis
    else (if sign == byte ")" then Some symbol.CloseParenthesis
    else (if sign == byte "[" then Some symbol.OpenBracket
    else (if sign == byte "]" then Some symbol.CloseBracket
    else (if sign == byte "{" then Some symbol.OpenBrace
    else (if sign == byte "}" then Some symbol.CloseBrace
    else None)))))))))))))))))

-- the symbol that these bytes are
abbrev pub symbol_of : List ℕ → Option Symbol
symbol_of [] = None
symbol_of (sign ∷ []) = single_symbol sign
symbol_of (sign ∷ next ∷ []) = pair_symbol sign next
symbol_of (sign ∷ next ∷ more ∷ rest) = None

-- does the sign belong together with the byte after it
abbrev pub begins_pair : ℕ → List ℕ → Bool
begins_pair sign [] = false
begins_pair sign (next ∷ rest) = is_some (pair_symbol sign next)
