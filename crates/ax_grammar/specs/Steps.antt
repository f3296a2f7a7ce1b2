-- Steps from a value to a part of it, as they are written.
use Rattle.std.specs.Prelude.{ℕ, ◌≤◌, List, [], ◌∷◌}
use Rattle.ax_lex.specs.declared.symbol.Symbol.TheVariants as symbol
use Rattle.ax_lex.specs.Lexeme.{Lexeme}
use Rattle.ax_mean.specs.declared.expr.QueryStep.{QueryStep}
use Rattle.ax_mean.specs.declared.expr.QueryStep.TheVariants.{Member, Position}
use Rattle.ax_grammar.specs.Tables.{greatest_u32}
use Rattle.ax_grammar.specs.Takes.{TakesSymbol, TakesWord, TakesText, TakesNumber}

-- nstep: a step to the member of that name
pub data IsNameStep : (name : List ℕ) (before after : List Lexeme) → Type 0 where
  -- nstep = "." word
  dotted : {word : List ℕ} {before dot after : List Lexeme} → TakesSymbol symbol.Dot before dot
      → TakesWord word dot after → IsNameStep word before after
  -- nstep = "[" text "]"
  quoted : {name : List ℕ} {before inside behind after : List Lexeme}
      → TakesSymbol symbol.OpenBracket before inside → TakesText name inside behind
      → TakesSymbol symbol.CloseBracket behind after → IsNameStep name before after

pub data IsStep : (step : QueryStep) (before after : List Lexeme) → Type 0 where
  -- step = nstep
  named : {name : List ℕ} {before after : List Lexeme} → IsNameStep name before after
      → IsStep (Member name) before after
  -- step = "[" position "]"
  positioned : {at : ℕ} {before inside behind after : List Lexeme}
      → TakesSymbol symbol.OpenBracket before inside → TakesNumber at inside behind
      → at ≤ greatest_u32 → TakesSymbol symbol.CloseBracket behind after
      → IsStep (Position at) before after

-- {step}
pub data AreSteps : (steps : List QueryStep) (before after : List Lexeme) → Type 0 where
  ended : {after : List Lexeme} → AreSteps [] after after
  more : {step : QueryStep} {steps : List QueryStep} {before between after : List Lexeme}
      → IsStep step before between → AreSteps steps between after
      → AreSteps (step ∷ steps) before after
