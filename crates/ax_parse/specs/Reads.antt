-- What a call that reads a phrase gives, beside what the reader of the grammar gives. Out of memory it
-- gives nothing, and nothing is said.
use Rattle.std.specs.Prelude.{◌≡◌, ℕ, suc, List, [], ◌∷◌, length, nat_le, Option, Some, None, Result, Ok, Err, if◌then◌else◌}
use Rattle.std.specs.Borrow.{Bor}
use Rattle.ax_lex.specs.declared.fault.LexFault.{LexFault}
use Rattle.ax_lex.specs.declared.fault.LexFault.TheVariants as lex
use Rattle.ax_lex.specs.Lexeme.{Lexeme}
use Rattle.ax_grammar.specs.Reading.{Turn}
use Rattle.ax_grammar.specs.Reading.Turn.{ended, failed, went_on}
use Rattle.ax_grammar.specs.Tables.{most_items}
use Rattle.ax_parse.specs.declared.fault.ParseFault.{ParseFault}
use Rattle.ax_parse.specs.declared.fault.ParseFault.TheVariants as parse
use Rattle.ax_parse.specs.declared.lexeme.Lexeme.{Lexeme as Written}
use Rattle.ax_parse.specs.declared.lexeme.Rest.{Rest}
use Rattle.ax_parse.specs.Said.{said, rest_said}

abbrev pub fault_of : LexFault → ParseFault
fault_of lex.Text = parse.Text
fault_of lex.Memory = parse.Memory

-- the first lexeme and the rest, or that there is none
abbrev pub Splits : Option (Written × Rest) → List Lexeme → Type 0
Splits (Some parts) lexemes = lexemes ≡ said parts.0 ∷ rest_said parts.1
Splits None lexemes = lexemes ≡ []

-- the rest behind what was looked for, or that it is not there
abbrev pub Finds : Option Rest → Option (List Lexeme) → Type 0
Finds (Some rest) found = found ≡ Some (rest_said rest)
Finds None found = found ≡ None

-- a value and the rest, or that it is not there
abbrev pub Sees : {X : Type 0} → Option (X × Rest) → Option (X × List Lexeme)
    → Type 0
Sees (Some seen) found = found ≡ Some (seen.0, rest_said seen.1)
Sees None found = found ≡ None

-- the value that was read and the rest, or that there is none
abbrev pub Reads : {X : Type 0} → Result (X × Rest) ParseFault
    → Option (X × List Lexeme) → Type 0
Reads (Ok read) found = found ≡ Some (read.0, rest_said read.1)
Reads (Err fault) found = fault ≡ parse.Text → found ≡ None

-- the rest behind what has to stand first
abbrev pub Goes : Result Rest ParseFault → Option (List Lexeme) → Type 0
Goes (Ok rest) found = found ≡ Some (rest_said rest)
Goes (Err fault) found = fault ≡ parse.Text → found ≡ None

-- the value that there is, or that there is none
abbrev pub IsValue : {X : Type 0} → Result X ParseFault → Option X → Type 0
IsValue (Ok value) found = found ≡ Some value
IsValue (Err fault) found = fault ≡ parse.Text → found ≡ None

-- as `IsValue`, of a value that is lent
abbrev pub Values : {X : Type 0} → Result (Bor X) ParseFault → Option X → Type 0
Values (Ok value) found = found ≡ Some value.now
Values (Err fault) found = fault ≡ parse.Text → found ≡ None

-- one turn of a repetition
abbrev pub Turns : {X : Type 0} → Result (Option (X × Rest)) ParseFault → Turn X
    → Type 0
Turns (Ok (Some read)) turn = turn ≡ went_on read.0 (rest_said read.1)
Turns (Ok None) turn = turn ≡ ended
Turns (Err fault) turn = fault ≡ parse.Text → turn ≡ failed

-- one less, where there is one
abbrev pub IsOneLess : Option ℕ → ℕ → Type 0
IsOneLess (Some inner) depth = depth ≡ suc inner
IsOneLess None depth = depth ≡ 0

-- a list of at most so many elements as may be written
abbrev pub limited : {X : Type 0} → List X → Option (List X)
limited items = if nat_le (length items) most_items then Some items else None
