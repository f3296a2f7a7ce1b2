-- The name that a step has.
use Rattle.std.specs.Prelude.{ℕ, List, Option, Some, None}
use Rattle.ax_mean.specs.declared.expr.QueryStep.{QueryStep}
use Rattle.ax_mean.specs.declared.expr.QueryStep.TheVariants.{Member, Position}

-- the name of a step to a member
abbrev pub step_name : QueryStep → Option (List ℕ)
step_name (Member name) = Some name
step_name (Position at) = None
