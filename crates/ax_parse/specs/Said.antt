-- What the lexemes in memory say: texts and numbers are there still as they are written.
use Rattle.std.specs.Prelude.{List, [], ◌∷◌, map}
use Rattle.std.specs.Str.{IsUtf8}
use Rattle.ax_lex.specs.Lexeme.{Lexeme}
use Rattle.ax_lex.specs.Lexemes.{text_lexeme, text_of}
use Rattle.ax_lex.specs.Tokens.{number_of}
use Rattle.ax_parse.specs.declared.lexeme.Lexeme.{Lexeme as Written}
use Rattle.ax_parse.specs.declared.lexeme.Lexeme.TheVariants as written
use Rattle.ax_parse.specs.declared.lexeme.Rest.{Rest}

abbrev pub said : Written → Lexeme
said (written.Name word) = Lexeme.name word.now
said (written.Keyword which word) = Lexeme.keyword which word.now
said (written.Parameter word) = Lexeme.parameter word.now
said (written.Text bytes) = text_lexeme (text_of bytes.now)
said (written.Number digits) = Lexeme.number (number_of digits.now)
said (written.Symbol which) = Lexeme.symbol which
said (written.Nothing kind) = Lexeme.nothing kind

abbrev pub all_said : List Written → List Lexeme
all_said = map said

-- what is still to be read
abbrev pub rest_said : Rest → List Lexeme
rest_said rest = all_said rest.lexemes.now

-- the word of the lexeme is UTF-8
abbrev pub HasUtf8 : Lexeme → Type 0
HasUtf8 (Lexeme.name word) = IsUtf8 word
HasUtf8 (Lexeme.keyword which word) = IsUtf8 word
HasUtf8 (Lexeme.parameter word) = IsUtf8 word
HasUtf8 (Lexeme.text value) = Unit {0}
HasUtf8 (Lexeme.number value) = Unit {0}
HasUtf8 (Lexeme.symbol which) = Unit {0}
HasUtf8 (Lexeme.nothing kind) = Unit {0}

abbrev pub HaveUtf8 : List Lexeme → Type 0
HaveUtf8 [] = Unit {0}
HaveUtf8 (first ∷ rest) = HasUtf8 first × HaveUtf8 rest
