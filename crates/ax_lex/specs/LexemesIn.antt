-- The lexemes of a whole text, as a function of its bytes: white space is passed over, and one
-- token after another is read off the front, up to the end. By a law of the crate these are the
-- lexemes that the grammar in `Tokens` has.
use Rattle.std.specs.Prelude.{ℕ, zero, suc, List, [], ◌∷◌, Option, Some, None, length, option_and_then, if◌then◌else◌}
use Rattle.std.specs.Option.{option_map}
use Rattle.std.specs.Str.{is_utf8}
use Rattle.ax_lex.specs.Lexeme.{Lexeme}
use Rattle.ax_lex.specs.Reading.{is_space, read_token}

-- a lexeme before those that were read
abbrev pub with_first : Lexeme → Option (List Lexeme) → Option (List Lexeme)
with_first first others = option_map (λ lexemes. first ∷ lexemes) others

-- the lexemes of bytes up to their end, in at most so many turns
unfoldable pub read_lexemes : ℕ → List ℕ → Option (List Lexeme)
read_lexemes zero [] = Some []
read_lexemes zero (byte ∷ rest) = None
read_lexemes (suc more) [] = Some []
read_lexemes (suc more) (byte ∷ rest) =
    if is_space byte then read_lexemes more rest
    else option_and_then (λ found. with_first found.0 (read_lexemes more found.1)) (read_token
    (byte ∷ rest))

-- the lexemes of a text. A turn takes a byte or more. None where the text is not UTF-8, or has
-- bytes that are no token and no white space
unfoldable pub lexemes_in : List ℕ → Option (List Lexeme)
lexemes_in text = if is_utf8 text then read_lexemes (length text) text else None
