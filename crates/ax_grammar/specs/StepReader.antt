-- Reading steps.
use Rattle.std.specs.Prelude.{ℕ, List, ◌∷◌, nat_le, Some, None}
use Rattle.ax_lex.specs.declared.symbol.Symbol.{Symbol}
use Rattle.ax_lex.specs.declared.symbol.Symbol.TheVariants as symbol
use Rattle.ax_lex.specs.Lexeme.{Lexeme}
use Rattle.ax_mean.specs.declared.expr.QueryStep.{QueryStep}
use Rattle.ax_mean.specs.declared.expr.QueryStep.TheVariants.{Member, Position}
use Rattle.ax_grammar.specs.Reading.{Reader, Turn, changed, closed_by, provided, take_word, must, all_turns}
use Rattle.ax_grammar.specs.Reading.Turn.{ended}
use Rattle.ax_grammar.specs.Tables.{greatest_u32}
use Rattle.ax_grammar.specs.Takes.Mark.{the_symbol}

-- what stands behind "["
abbrev pub read_name_in_brackets : Reader (List ℕ)
read_name_in_brackets (Lexeme.text name ∷ rest) =
    closed_by (the_symbol symbol.CloseBracket) (Some (name, rest))
read_name_in_brackets _ = None

abbrev pub read_in_brackets : Reader QueryStep
read_in_brackets (Lexeme.text name ∷ rest) =
    closed_by (the_symbol symbol.CloseBracket) (Some (Member name, rest))
read_in_brackets (Lexeme.number at ∷ rest) =
    provided (nat_le at greatest_u32)
    (closed_by (the_symbol symbol.CloseBracket) (Some (Position at, rest)))
read_in_brackets _ = None

-- a step that the symbol begins, of what stands behind "." and behind "["
abbrev pub step_by : {X : Type 0} → Reader X → Reader X → Symbol → List Lexeme → Turn X
step_by dotted bracketed symbol.Dot rest = must (dotted rest)
step_by dotted bracketed symbol.OpenBracket rest = must (bracketed rest)
step_by dotted bracketed _ rest = ended

abbrev pub turn_step : List Lexeme → Turn QueryStep
turn_step (Lexeme.symbol which ∷ rest) =
    step_by (λ lexemes. changed Member (take_word lexemes)) read_in_brackets which rest
turn_step _ = ended

abbrev pub turn_name_step : List Lexeme → Turn (List ℕ)
turn_name_step (Lexeme.symbol which ∷ rest) = step_by take_word read_name_in_brackets which rest
turn_name_step _ = ended

-- {step}
abbrev pub read_steps : Reader (List QueryStep)
read_steps = all_turns turn_step

-- {nstep}
abbrev pub read_name_steps : Reader (List (List ℕ))
read_name_steps = all_turns turn_name_step
