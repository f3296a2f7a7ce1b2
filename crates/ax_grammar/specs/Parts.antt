-- What holds of an expression with all its parts: which aliases stand in it, where aggregates stand,
-- and how many arguments functions have.
use Rattle.std.specs.Prelude.{ℕ, List, length, Bool, true, false, ◌&&◌, ◌||◌}
use Rattle.std.specs.List.{list_all, list_any}
use Rattle.std.specs.Str.{bytes_eq}
use Rattle.ax_mean.specs.declared.expr.Expr.{Expr, fold-Expr}
use Rattle.ax_mean.specs.declared.expr.Expr.TheOpen.{Expr-F}
use Rattle.ax_mean.specs.declared.expr.Expr.TheFolds.{map-Expr}
use Rattle.ax_mean.specs.declared.expr.Expr.TheViews.{roll-Expr}
use Rattle.ax_mean.specs.Functions.{takes}
use Rattle.ax_mean.specs.Parts.{level_parts}
use Rattle.ax_grammar.specs.SameExprs.{is_same_expr}

-- is the name among these
abbrev pub has : List (List ℕ) → List ℕ → Bool
has names name = list_any (bytes_eq name) names

abbrev pub declared_level : List (List ℕ) → Expr-F Bool → Bool
declared_level aliases (Expr-F.Alias name) = has aliases name
declared_level aliases level = list_all (λ part. part) (level_parts level)

-- each alias in the expression is one of these
abbrev pub are_declared : List (List ℕ) → Expr → Bool
are_declared aliases = fold-Expr Bool (declared_level aliases)

abbrev pub aggregates_level : Expr-F (Bool → Bool) → Bool → Bool
aggregates_level (Expr-F.Total aggregate x) allowed = allowed && x false
aggregates_level level allowed = list_all (λ part. part allowed) (level_parts level)

-- aggregates stand in the expression only where they are allowed, and none inside another
abbrev pub aggregates_fit : Expr → Bool → Bool
aggregates_fit = fold-Expr (Bool → Bool) aggregates_level

abbrev pub calls_level : Expr-F Bool → Bool
calls_level (Expr-F.Call func args) = takes func (length args) && list_all (λ part. part) args
calls_level level = list_all (λ part. part) (level_parts level)

-- each function in the expression has as many arguments as it takes
abbrev pub calls_fit : Expr → Bool
calls_fit = fold-Expr Bool calls_level

-- are the parts built, where each is seen beside whether it is
abbrev pub parts_built : Expr-F (Expr × Bool) → Bool
parts_built (Expr-F.Alias name) = false
parts_built (Expr-F.Total aggregate x) = true
parts_built level = list_all (λ part. part.1) (level_parts level)

-- the expression itself
abbrev pub whole_of_level : Expr-F (Expr × Bool) → Expr
whole_of_level level = roll-Expr (map-Expr (Expr × Bool) Expr (λ part. part.0) level)

abbrev pub built_level : List Expr → Expr-F (Expr × Bool) → Expr × Bool
built_level groups level = (
  whole_of_level level,
  list_any (is_same_expr (whole_of_level level)) groups || parts_built level,
)

-- is the expression built of aggregates, literals and expressions that are the same as one of these
abbrev pub is_built : List Expr → Expr → Bool
is_built groups x = (fold-Expr (Expr × Bool) (built_level groups) x).1
