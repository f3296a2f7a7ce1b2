-- Steps from a value to a part of it: undefined where there is no such part.
use Rattle.std.specs.Prelude.{List, [], ◌∷◌, option_and_then, slice_get}
use Rattle.ax_tree.specs.Document.{member}
use Rattle.ax_mean.specs.declared.expr.QueryStep.{QueryStep}
use Rattle.ax_mean.specs.declared.expr.QueryStep.TheVariants.{Member, Position}
use Rattle.ax_mean.specs.declared.value.Value.{Value}
use Rattle.ax_mean.specs.declared.value.Value.TheVariants.{Undefined, Defined}
use Rattle.ax_mean.specs.Values.{of_tree, list_of}

-- `value.name`, `value[3]`
abbrev pub step_from : Value → QueryStep → Value
step_from Undefined step = Undefined
step_from (Defined tree) (Member name) = of_tree (member name tree)
step_from (Defined tree) (Position at) =
    of_tree (option_and_then (λ items. slice_get items at) (list_of (Defined tree)))

-- one step after another
abbrev pub steps_from : Value → List QueryStep → Value
steps_from value [] = value
steps_from value (step ∷ steps) = steps_from (step_from value step) steps
