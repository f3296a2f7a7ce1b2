-- What is asked of an expression itself, and not of its parts.
use Rattle.std.specs.Prelude.{ℕ, List, Bool, true, false}
use Rattle.ax_mean.specs.declared.expr.Expr.{Expr, out-Expr}
use Rattle.ax_mean.specs.declared.expr.Expr.TheOpen.{Expr-F}
use Rattle.ax_grammar.specs.Parts.{has}

abbrev pub alias_level : {X : Type 0} → Expr-F X → Bool
alias_level (Expr-F.Alias name) = true
alias_level _ = false

-- the expression is an alias
abbrev pub is_alias : Expr → Bool
is_alias x = alias_level (out-Expr x)

abbrev pub declared_form : {X : Type 0} → List (List ℕ) → Expr-F X → Bool
declared_form aliases (Expr-F.Alias name) = has aliases name
declared_form aliases _ = true

-- the expression is one of these aliases, or no alias
abbrev pub is_declared : List (List ℕ) → Expr → Bool
is_declared aliases x = declared_form aliases (out-Expr x)
