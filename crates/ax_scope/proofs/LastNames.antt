-- The last name is found by going over all steps.
use Rattle.std.proofs.Common.{◌≡◌, ◌<◌, ℕ, length, List, [], ◌∷◌, Option, Some, None, refl, arith}
use Rattle.ax_mean.specs.declared.expr.QueryStep.{QueryStep}
use Rattle.ax_mean.specs.declared.expr.QueryStep.TheVariants.{Member, Position}
use Rattle.ax_grammar.specs.Names.{last_name, as_name, default_alias}
use Rattle.ax_scope.specs.StepNames.{step_name}

-- the name of the last of these steps, or this one where there is none
abbrev pub last_from : Option (List ℕ) → List QueryStep → Option (List ℕ)
last_from found [] = found
last_from found (step ∷ steps) = last_from (step_name step) steps

last_from_more : (found : Option (List ℕ)) (step : QueryStep) (steps : List QueryStep)
    → last_from found (step ∷ steps) ≡ last_name (step ∷ steps)
last_from_more found (Member name) [] = refl
last_from_more found (Position at) [] = refl
last_from_more found (Member name) (next ∷ steps) = last_from_more (Some name) next steps
last_from_more found (Position at) (next ∷ steps) = last_from_more None next steps

pub last_from_none : (steps : List QueryStep) → last_from None steps ≡ last_name steps
last_from_none [] = refl
last_from_none (step ∷ steps) = last_from_more None step steps

pub alias_of_steps : (container : List ℕ) (steps : List QueryStep) → 0 < length steps
    → default_alias container steps ≡ as_name (last_name steps)
alias_of_steps container [] h = absurd (omega arith)
alias_of_steps container (step ∷ steps) h = refl
