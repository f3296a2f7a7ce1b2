-- A condition taken apart at its outermost ANDs, also where one AND stands in another: `(a AND b) AND
-- c` and `a AND (b AND c)` come to a, b and c. An OR and a NOT are not looked into.
use Rattle.std.specs.Prelude.{List, [], ◌∷◌}
use Rattle.std.specs.List.{flat_map}
use Rattle.ax_mean.specs.declared.expr.Expr.{Expr}
use Rattle.ax_mean.specs.declared.expr.Expr.TheOpen.{Expr-F}
use Rattle.ax_result.specs.Totals.{as_it_is, pair_by}

-- one level, whose children are seen as they are and as what they fall into
abbrev pub operands_level : Expr-F (Expr × List Expr) → List Expr
operands_level (Expr-F.And (first ∷ rest)) = flat_map (λ part. part.1) (first ∷ rest)
operands_level level = as_it_is level ∷ []

-- the operands of its outermost ANDs, in the order of the text
abbrev pub operands : Expr → List Expr
operands x = (pair_by operands_level x).1
