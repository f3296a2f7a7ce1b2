-- Steps: what is written is read.
use Rattle.std.proofs.Common.{◌≡◌, ℕ, true, false, List, ◌∷◌, refl, le-leb}
use Rattle.ax_lex.specs.declared.symbol.Symbol.TheVariants as symbol
use Rattle.ax_lex.specs.Lexeme.{Lexeme}
use Rattle.ax_mean.specs.declared.expr.QueryStep.{QueryStep}
use Rattle.ax_grammar.specs.Fronts.{begins_step}
use Rattle.ax_grammar.specs.Queries.{AreNameSteps}
use Rattle.ax_grammar.specs.Queries.AreNameSteps.{names_ended, more_names}
use Rattle.ax_grammar.specs.Reading.Turn.{ended, went_on}
use Rattle.ax_grammar.specs.Steps.{IsNameStep, IsStep, AreSteps}
use Rattle.ax_grammar.specs.Steps.IsNameStep.{dotted, quoted}
use Rattle.ax_grammar.specs.Steps.IsStep.{named, positioned}
use Rattle.ax_grammar.specs.Steps.AreSteps.{ended as steps_ended, more as more_steps}
use Rattle.ax_grammar.specs.StepReader.{turn_step, turn_name_step, read_steps, read_name_steps}
use Rattle.ax_grammar.specs.Tables.{greatest_u32}
use Rattle.ax_grammar.specs.Takes.Takes.{symbol_first}
use Rattle.ax_grammar.specs.Takes.TakesNumber.{number_first}
use Rattle.ax_grammar.specs.Takes.TakesText.{text_first}
use Rattle.ax_grammar.specs.Takes.TakesWord.{name_as_word, keyword_as_word}
use Rattle.ax_grammar.proofs.CompleteTurns.{Reads, Turns, all_read}
use Rattle.ax_grammar.proofs.CompleteTurns.Turns.{no_turn, one_turn}
use Rattle.ax_grammar.proofs.FrontsLengths.{name_step_shorter, step_shorter}

step_turn : {step : QueryStep} {before after : List Lexeme} → IsStep step before after
    → turn_step before ≡ went_on step after
step_turn (named (dotted symbol_first name_as_word)) = refl
step_turn (named (dotted symbol_first keyword_as_word)) = refl
step_turn (named (quoted symbol_first text_first symbol_first)) = refl
step_turn (positioned {at} symbol_first number_first l symbol_first) =
    rw (le-leb at greatest_u32 l) refl

no_step_turn : (after : List Lexeme) → begins_step after ≡ false → turn_step after ≡ ended
no_step_turn (Lexeme.symbol symbol.Dot ∷ rest) e = absurd (cc)
no_step_turn (Lexeme.symbol symbol.OpenBracket ∷ rest) e = absurd (cc)
no_step_turn _ e = refl

step_turns : {steps : List QueryStep} {before after : List Lexeme} → AreSteps steps before after
    → begins_step after ≡ false → Turns turn_step before steps after
step_turns (steps_ended {after}) e = no_turn (no_step_turn after e)
step_turns (more_steps s ss) e = one_turn (step_turn s) (step_shorter s) (step_turns ss e)

pub steps_read : {steps : List QueryStep} {before after : List Lexeme}
    → AreSteps steps before after → begins_step after ≡ false
    → Reads read_steps before steps after
steps_read s e = all_read (step_turns s e)

-- a step stands first, where steps stand
pub step_begins : {step : QueryStep} {before after : List Lexeme} → IsStep step before after
    → begins_step before ≡ true
step_begins (named (dotted symbol_first w)) = refl
step_begins (named (quoted symbol_first t c)) = refl
step_begins (positioned symbol_first n l c) = refl

name_turn : {name : List ℕ} {before after : List Lexeme} → IsNameStep name before after
    → turn_name_step before ≡ went_on name after
name_turn (dotted symbol_first name_as_word) = refl
name_turn (dotted symbol_first keyword_as_word) = refl
name_turn (quoted symbol_first text_first symbol_first) = refl

no_name_turn : (after : List Lexeme) → begins_step after ≡ false → turn_name_step after ≡ ended
no_name_turn (Lexeme.symbol symbol.Dot ∷ rest) e = absurd (cc)
no_name_turn (Lexeme.symbol symbol.OpenBracket ∷ rest) e = absurd (cc)
no_name_turn _ e = refl

name_turns : {names : List (List ℕ)} {before after : List Lexeme}
    → AreNameSteps names before after → begins_step after ≡ false
    → Turns turn_name_step before names after
name_turns (names_ended {after}) e = no_turn (no_name_turn after e)
name_turns (more_names s ss) e = one_turn (name_turn s) (name_step_shorter s) (name_turns ss e)

pub names_read : {names : List (List ℕ)} {before after : List Lexeme}
    → AreNameSteps names before after → begins_step after ≡ false
    → Reads read_name_steps before names after
names_read s e = all_read (name_turns s e)
