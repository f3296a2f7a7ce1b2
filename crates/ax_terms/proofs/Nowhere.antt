-- From undefined no path leads to anything.
use Rattle.std.proofs.Common.{◌≡◌, ℕ, ◌<◌, suc, length, get_or, drop, List, [], ◌∷◌, refl, sym, ap, ◌∙◌}
use Rattle.std.proofs.Math.Seq.{drop-cons}
use Rattle.ax_mean.specs.declared.query.Step.{Step}
use Rattle.ax_mean.specs.declared.value.Value.{Value}
use Rattle.ax_mean.specs.declared.value.Value.TheVariants.{Undefined}
use Rattle.ax_mean.specs.Rows.{along_path, along_step}

along_path_nothing : (steps : List Step) → along_path Undefined steps ≡ Undefined
along_path_nothing [] = refl
along_path_nothing (step ∷ steps) = along_path_nothing steps

-- a walk along a path that comes to nothing leads to nothing
pub path_ends_nowhere : (value whole : Value) (steps : List Step) (step : Step) (at : ℕ)
    → at < length steps → step ≡ get_or steps at step → along_path value (drop at steps) ≡ whole
    → Undefined ≡ along_step value step → Undefined ≡ whole
path_ends_nowhere value whole steps step at low is goes none =
    sym (along_path_nothing (drop (suc at) steps))
    ∙ ap (λ v. along_path v (drop (suc at) steps)) (none ∙ ap (along_step value) is)
    ∙ sym (ap (along_path value) (drop-cons steps at step low)) ∙ goes
