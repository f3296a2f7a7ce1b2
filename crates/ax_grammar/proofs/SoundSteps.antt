-- Single lexemes, operators and steps that are read are those of the grammar.
use Rattle.std.proofs.Common.{◌≡◌, List, [], ◌∷◌, Option, Some}
use Rattle.std.specs.Prelude.{nat_le}
use Rattle.std.proofs.lemmas.Bool.{leb-true}
use Rattle.ax_lex.specs.declared.symbol.Symbol.{Symbol}
use Rattle.ax_lex.specs.declared.symbol.Symbol.TheVariants as symbol
use Rattle.ax_lex.specs.Lexeme.{Lexeme}
use Rattle.ax_mean.specs.declared.expr.QueryStep.TheVariants.{Member, Position}
use Rattle.ax_grammar.specs.Queries.{AreNameSteps}
use Rattle.ax_grammar.specs.Queries.AreNameSteps.{names_ended, more_names}
use Rattle.ax_grammar.specs.Reading.{Reader, take_name, take_word, take_label, take_operator}
use Rattle.ax_grammar.specs.StepReader.{read_name_in_brackets, read_in_brackets, step_by, turn_step, turn_name_step, read_steps, read_name_steps}
use Rattle.ax_grammar.specs.Steps.{IsNameStep, IsStep, AreSteps}
use Rattle.ax_grammar.specs.Steps.IsNameStep.{dotted, quoted}
use Rattle.ax_grammar.specs.Steps.IsStep.{named, positioned}
use Rattle.ax_grammar.specs.Steps.AreSteps.{ended, more}
use Rattle.ax_grammar.specs.Tables.{greatest_u32}
use Rattle.ax_grammar.specs.Takes.{TakesSymbol, TakesName, TakesWord, TakesLabel}
use Rattle.ax_grammar.specs.Takes.Mark.{the_symbol}
use Rattle.ax_grammar.specs.Takes.Takes.{symbol_first}
use Rattle.ax_grammar.specs.Takes.TakesName.{name_first}
use Rattle.ax_grammar.specs.Takes.TakesNumber.{number_first}
use Rattle.ax_grammar.specs.Takes.TakesWord.{name_as_word, keyword_as_word}
use Rattle.ax_grammar.specs.Takes.TakesText.{text_first}
use Rattle.ax_grammar.specs.Takes.TakesLabel.{word_as_label, text_as_label}
use Rattle.ax_grammar.proofs.SoundMarks.{gives_closed_at}
use Rattle.ax_grammar.proofs.SoundReading.{Gives, IsSound, TurnGives, gives_provided, gives_changed, gives_mapped, gives_turn, gives_with, all_turns_sound}
use Rattle.ax_grammar.proofs.SoundReading.Gives.{gives_none, gives}
use Rattle.ax_grammar.proofs.SoundReading.TurnGives.{has_ended}

pub name_sound : IsSound (λ before word after. TakesName word before after) take_name
name_sound [] = gives_none
name_sound (Lexeme.name word ∷ rest) = gives name_first
name_sound (_ ∷ rest) = gives_none

pub word_sound : IsSound (λ before word after. TakesWord word before after) take_word
word_sound [] = gives_none
word_sound (Lexeme.name word ∷ rest) = gives name_as_word
word_sound (Lexeme.keyword which word ∷ rest) = gives keyword_as_word
word_sound (_ ∷ rest) = gives_none

pub label_sound : IsSound (λ before label after. TakesLabel label before after) take_label
label_sound [] = gives_none
label_sound (Lexeme.name word ∷ rest) = gives (word_as_label name_as_word)
label_sound (Lexeme.keyword which word ∷ rest) = gives (word_as_label keyword_as_word)
label_sound (Lexeme.text value ∷ rest) = gives (text_as_label text_first)
label_sound (_ ∷ rest) = gives_none

-- a symbol stands first that is this operator
pub record TakesOperator {O : Type 0} (table : Symbol → Option O) (before : List Lexeme)
    (operator : O) (after : List Lexeme) : Type 0 where
  pub which : Symbol
  pub first : TakesSymbol which before after
  pub is_it : table which ≡ Some operator

pub operator_sound : {O : Type 0} (table : Symbol → Option O)
    → IsSound (TakesOperator table) (take_operator table)
operator_sound table [] = gives_none
operator_sound table (Lexeme.symbol which ∷ rest) =
    gives_mapped rest (λ operator. operator) (table which) (λ operator e.
    record { which = which; first = symbol_first; is_it = e })
operator_sound table (_ ∷ rest) = gives_none

step_by_gives : {X : Type 0} (P : Symbol → X → List Lexeme → Type 0)
    (by_dot by_bracket : Reader X) (which : Symbol) (rest : List Lexeme)
    → Gives (P symbol.Dot) (by_dot rest) → Gives (P symbol.OpenBracket) (by_bracket rest)
    → TurnGives (P which) (step_by by_dot by_bracket which rest)
step_by_gives P by_dot by_bracket symbol.Dot rest f g = gives_turn f
step_by_gives P by_dot by_bracket symbol.OpenBracket rest f g = gives_turn g
step_by_gives P by_dot by_bracket _ rest f g = has_ended

name_in_brackets_gives : (rest : List Lexeme)
    → Gives (λ name after. IsNameStep name (Lexeme.symbol symbol.OpenBracket ∷ rest) after)
    (read_name_in_brackets rest)
name_in_brackets_gives [] = gives_none
name_in_brackets_gives (Lexeme.text name ∷ rest) =
    gives_closed_at (the_symbol symbol.CloseBracket) name rest (λ after t.
    quoted symbol_first text_first t)
name_in_brackets_gives (_ ∷ rest) = gives_none

in_brackets_gives : (rest : List Lexeme)
    → Gives (λ step after. IsStep step (Lexeme.symbol symbol.OpenBracket ∷ rest) after)
    (read_in_brackets rest)
in_brackets_gives [] = gives_none
in_brackets_gives (Lexeme.text name ∷ rest) =
    gives_closed_at (the_symbol symbol.CloseBracket) (Member name) rest (λ after t.
    named (quoted symbol_first text_first t))
in_brackets_gives (Lexeme.number at ∷ rest) =
    gives_provided (nat_le at greatest_u32) (λ e.
    gives_closed_at (the_symbol symbol.CloseBracket) (Position at) rest (λ after t.
    positioned symbol_first number_first (leb-true at greatest_u32 e) t))
in_brackets_gives (_ ∷ rest) = gives_none

dotted_name_gives : (rest : List Lexeme)
    → Gives (λ name after. IsNameStep name (Lexeme.symbol symbol.Dot ∷ rest) after)
    (take_word rest)
dotted_name_gives rest = gives_with (word_sound rest) (λ word after t. dotted symbol_first t)

name_step_gives : (lexemes : List Lexeme)
    → TurnGives (λ name after. IsNameStep name lexemes after) (turn_name_step lexemes)
name_step_gives [] = has_ended
name_step_gives (Lexeme.symbol which ∷ rest) =
    step_by_gives (λ s name after. IsNameStep name (Lexeme.symbol s ∷ rest) after)
    take_word read_name_in_brackets which rest (dotted_name_gives rest)
    (name_in_brackets_gives rest)
name_step_gives (_ ∷ rest) = has_ended

step_gives : (lexemes : List Lexeme)
    → TurnGives (λ step after. IsStep step lexemes after) (turn_step lexemes)
step_gives [] = has_ended
step_gives (Lexeme.symbol which ∷ rest) =
    step_by_gives (λ s step after. IsStep step (Lexeme.symbol s ∷ rest) after) _
    read_in_brackets which rest
    (gives_changed Member (dotted_name_gives rest) (λ name after h. named h))
    (in_brackets_gives rest)
step_gives (_ ∷ rest) = has_ended

pub steps_sound : IsSound (λ before steps after. AreSteps steps before after) read_steps
steps_sound =
    all_turns_sound turn_step (record {
      none = λ lexemes. ended;
      more = λ before between after step steps h m. more h m;
    }) step_gives

pub name_steps_sound : IsSound (λ before names after. AreNameSteps names before after)
    read_name_steps
name_steps_sound =
    all_turns_sound turn_name_step (record {
      none = λ lexemes. names_ended;
      more = λ before between after name names h m. more_names h m;
    }) name_step_gives
