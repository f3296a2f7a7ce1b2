-- From undefined no steps and no path lead to anything.
use Rattle.std.proofs.Common.{◌≡◌, ℕ, ◌<◌, suc, length, get_or, drop, List, [], ◌∷◌, Bool, true, false, refl, sym, ap, ◌∙◌}
use Rattle.std.specs.List.{flat_map}
use Rattle.std.proofs.Math.Seq.{drop-cons}
use Rattle.ax_mean.specs.declared.expr.QueryStep.{QueryStep}
use Rattle.ax_mean.specs.declared.query.FromItem.{FromItem}
use Rattle.ax_mean.specs.declared.query.Step.{Step}
use Rattle.ax_mean.specs.declared.value.Value.{Value}
use Rattle.ax_mean.specs.declared.value.Value.TheVariants.{Undefined}
use Rattle.ax_mean.specs.Meaning.{bound}
use Rattle.ax_mean.specs.Rows.{Bound, along_path, along_step, choices, rows_from, with_choice}
use Rattle.ax_mean.specs.Steps.{step_from, steps_from}

pub steps_from_nothing : (steps : List QueryStep) → steps_from Undefined steps ≡ Undefined
steps_from_nothing [] = refl
steps_from_nothing (step ∷ steps) = steps_from_nothing steps

pub along_path_nothing : (steps : List Step) → along_path Undefined steps ≡ Undefined
along_path_nothing [] = refl
along_path_nothing (step ∷ steps) = along_path_nothing steps

abbrev grown : FromItem → List FromItem → Bound → Value → List Bound
grown item rest row value =
    flat_map (λ choice. rows_from rest (with_choice item.alias row choice))
    (choices item.each (steps_from value item.steps))

none_by : (each : Bool) (item : FromItem) (rest : List FromItem) (row : Bound)
    → flat_map (λ choice. rows_from rest (with_choice item.alias row choice)) (choices each Undefined) ≡ []
none_by true item rest row = refl
none_by false item rest row = refl

-- a source that begins where nothing is has no row
pub no_rows : (items rest : List FromItem) (item : FromItem) (row : Bound) → items ≡ item ∷ rest
    → Undefined ≡ bound row.env item.base → [] ≡ rows_from items row
no_rows items rest item row e u =
    sym (ap (λ xs. rows_from xs row) e ∙ ap (grown item rest row) (sym u)
    ∙ ap (λ v. flat_map (λ choice. rows_from rest (with_choice item.alias row choice)) (choices item.each v))
    (steps_from_nothing item.steps)
    ∙ none_by item.each item rest row)

-- a walk along steps that comes to nothing leads to nothing
pub ends_nowhere : (value whole : Value) (steps : List QueryStep) (step : QueryStep) (at : ℕ)
    → at < length steps → step ≡ get_or steps at step → steps_from value (drop at steps) ≡ whole
    → Undefined ≡ step_from value step → Undefined ≡ whole
ends_nowhere value whole steps step at low is goes none =
    sym (steps_from_nothing (drop (suc at) steps))
    ∙ ap (λ v. steps_from v (drop (suc at) steps)) (none ∙ ap (step_from value) is)
    ∙ sym (ap (steps_from value) (drop-cons steps at step low)) ∙ goes

pub path_ends_nowhere : (value whole : Value) (steps : List Step) (step : Step) (at : ℕ)
    → at < length steps → step ≡ get_or steps at step → along_path value (drop at steps) ≡ whole
    → Undefined ≡ along_step value step → Undefined ≡ whole
path_ends_nowhere value whole steps step at low is goes none =
    sym (along_path_nothing (drop (suc at) steps))
    ∙ ap (λ v. along_path v (drop (suc at) steps)) (none ∙ ap (along_step value) is)
    ∙ sym (ap (along_path value) (drop-cons steps at step low)) ∙ goes
