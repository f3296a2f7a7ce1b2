-- What property paths and constants mean.
use Rattle.std.proofs.Common.{◌≡◌, ℕ, List, [], ◌∷◌, map, Bool, true, false, cond, Some, None, refl, sym, ap, ◌∙◌, subst}
use Rattle.std.proofs.lemmas.Option.{same_Some, none-some}
use Rattle.std.proofs.lemmas.Slice.Eq.{bytes_eq-Decides}
use Rattle.std.specs.Str.{bytes_eq}
use Rattle.ax_mean.specs.declared.expr.Expr.{Expr, out-Expr}
use Rattle.ax_mean.specs.declared.expr.Expr.TheOpen.{Expr-F}
use Rattle.ax_mean.specs.declared.expr.Expr.TheViews.{roll-Expr, roll-out-Expr}
use Rattle.ax_mean.specs.declared.expr.Expr.TheFolds.{map-Expr, fold-roll-Expr}
use Rattle.ax_mean.specs.declared.expr.QueryStep.{QueryStep}
use Rattle.ax_mean.specs.declared.operator.UnaryOp.{UnaryOp}
use Rattle.ax_mean.specs.declared.operator.UnaryOp.TheVariants as unary_op
use Rattle.ax_mean.specs.declared.query.Step.{Step}
use Rattle.ax_mean.specs.declared.value.Value.{Value}
use Rattle.ax_mean.specs.declared.value.Value.TheVariants.{Undefined}
use Rattle.ax_mean.specs.Meaning.{Env, bound, meaning, meaning_level}
use Rattle.ax_mean.specs.Operators.{unary}
use Rattle.ax_mean.specs.Steps.{steps_from}
use Rattle.ax_mean.specs.Values.{is_defined}
use Rattle.ax_atoms.specs.Recognised.{constant, constant_level, from_alias, negative_level, path_level, path_of, property_path, signed_level, step_of}

pub meaning-roll : (env : Env) (z : Expr-F Expr)
    → meaning env (roll-Expr z) ≡ meaning_level env (map-Expr Expr Value (meaning env) z)
meaning-roll env = fold-roll-Expr Value (meaning_level env)

-- an expression by its level
pub meaning-out : (env : Env) (x : Expr)
    → meaning env x ≡ meaning_level env (map-Expr Expr Value (meaning env) (out-Expr x))
meaning-out env x = ap (meaning env) (sym (roll-out-Expr x)) ∙ meaning-roll env (out-Expr x)

no_path : {A : Type 0} (path : List Step) → None ≡ Some path → A
no_path path h = absurd (none-some path h)

-- ---- property paths

record FromAlias (env : Env) (alias : List ℕ) (steps : List QueryStep) (path : List Step) (z : Expr-F Expr) : Type 0 where
  value : meaning_level env (map-Expr Expr Value (meaning env) z) ≡ bound env alias
  path_is : path_of steps ≡ Some path

by_name : (env : Env) (alias name : List ℕ) (steps : List QueryStep) (path : List Step) (same : Bool)
    → bytes_eq alias name ≡ same → cond same (path_of steps) None ≡ Some path
    → FromAlias env alias steps path (Expr-F.Alias name)
by_name env alias name steps path true same h =
    record {
      value = ap (bound env) (sym ((bytes_eq-Decides alias name).0 same));
      path_is = h;
    }
by_name env alias name steps path false same h = no_path path h

alias_level : (env : Env) (alias : List ℕ) (steps : List QueryStep) (path : List Step) (z : Expr-F Expr)
    → from_alias alias steps z ≡ Some path → FromAlias env alias steps path z
alias_level env alias steps path (Expr-F.Alias name) h =
    by_name env alias name steps path (bytes_eq alias name) refl h
alias_level env alias steps path z h = no_path path h

-- the path is that of some steps, at least one, and the expression the part of the document there
pub record IsPathOf (env : Env) (alias : List ℕ) (x : Value) (path : List Step) : Type 0 where
  pub steps : List QueryStep
  pub path_is : path ≡ map step_of steps
  pub some : path_of steps ≡ Some path
  pub value : x ≡ steps_from (bound env alias) steps

some_steps : (steps : List QueryStep) (path : List Step) → path_of steps ≡ Some path
    → path ≡ map step_of steps
some_steps [] path h = no_path path h
some_steps (step ∷ steps) path h = sym (same_Some (map step_of (step ∷ steps)) path h)

path_by_level : (env : Env) (alias : List ℕ) (path : List Step) (z : Expr-F Expr)
    → path_level alias z ≡ Some path
    → IsPathOf env alias (meaning_level env (map-Expr Expr Value (meaning env) z)) path
path_by_level env alias path (Expr-F.Steps base steps) h =
    let from = alias_level env alias steps path (out-Expr base) h in
    record {
      steps = steps;
      path_is = some_steps steps path from.path_is;
      some = from.path_is;
      value = ap (λ v. steps_from v steps) (meaning-out env base ∙ from.value);
    }
path_by_level env alias path z h = no_path path h

pub path_means : (env : Env) (alias : List ℕ) (x : Expr) (path : List Step)
    → property_path alias x ≡ Some path → IsPathOf env alias (meaning env x) path
path_means env alias x path h =
    subst (λ v. IsPathOf env alias v path) (sym (meaning-out env x))
    (path_by_level env alias path (out-Expr x) h)

-- ---- constants

abbrev IsConstant : Env → Expr-F Expr → Type 0
IsConstant env z =
    is_defined (constant_level z) ≡ true
    → meaning_level env (map-Expr Expr Value (meaning env) z) ≡ constant_level z

undefined_is : {A : Type 0} → is_defined Undefined ≡ true → A
undefined_is h = absurd (let e : ⊥ = cc in e)

negative_means : (env : Env) (z : Expr-F Expr) → is_defined (negative_level z) ≡ true
    → unary unary_op.Minus (meaning_level env (map-Expr Expr Value (meaning env) z)) ≡ negative_level z
negative_means env (Expr-F.Literal value) h = refl
negative_means env z h = undefined_is h

signed_means : (env : Env) (operator : UnaryOp) (z : Expr-F Expr) → is_defined (signed_level operator z) ≡ true
    → unary operator (meaning_level env (map-Expr Expr Value (meaning env) z)) ≡ signed_level operator z
signed_means env unary_op.Minus z h = negative_means env z h
signed_means env unary_op.Plus z h = undefined_is h
signed_means env unary_op.Not z h = undefined_is h

constant_by_level : (env : Env) (z : Expr-F Expr) → IsConstant env z
constant_by_level env (Expr-F.Literal value) h = refl
constant_by_level env (Expr-F.Sign operator a) h =
    ap (unary operator) (meaning-out env a) ∙ signed_means env operator (out-Expr a) h
constant_by_level env z h = undefined_is h

pub constant_means : (env : Env) (x : Expr) → is_defined (constant x) ≡ true
    → meaning env x ≡ constant x
constant_means env x h = meaning-out env x ∙ constant_by_level env (out-Expr x) h
