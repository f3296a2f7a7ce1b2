-- Rows of a group that are alike.
use Rattle.std.proofs.Common.{◌≡◌, List, [], ◌∷◌, ◌++◌, map, cond, Bool, true, false, Option, Some, None, refl, ap₂, subst}
use Rattle.std.specs.Prelude.{⊤}
use Rattle.std.specs.List.{filter_map, cons_option}
use Rattle.ax_mean.specs.declared.expr.Expr.{Expr}
use Rattle.ax_mean.specs.declared.value.Value.{Value}
use Rattle.ax_mean.specs.Meaning.{Env, meaning}
use Rattle.ax_mean.specs.Rows.{Bound, env_where, passes}
use Rattle.ax_excerpt.specs.Uses.{Uses, is_within}
use Rattle.ax_excerpt.specs.Enough.{condition_within}
use Rattle.ax_excerpt.proofs.Meanings.{AreAlike, alike_itself, same_meaning}
use Rattle.ax_excerpt.proofs.SameRows.{RowsAlike, passes_alike}
use Rattle.ax_result.specs.Groups.{first_env}

abbrev pub EnvsAlike : Uses → List Env → List Env → Type 0
EnvsAlike uses [] [] = ⊤
EnvsAlike uses [] (e ∷ es) = ⊥
EnvsAlike uses (e ∷ es) [] = ⊥
EnvsAlike uses (e ∷ es) (f ∷ fs) = AreAlike uses e f × EnvsAlike uses es fs

pub envs_append : (uses : Uses) (es fs xs ys : List Env) → EnvsAlike uses es fs → EnvsAlike uses xs ys
    → EnvsAlike uses (es ++ xs) (fs ++ ys)
envs_append uses [] [] xs ys a b = b
envs_append uses [] (f ∷ fs) xs ys a b = absurd a
envs_append uses (e ∷ es) [] xs ys a b = absurd a
envs_append uses (e ∷ es) (f ∷ fs) xs ys a b = (a.0, envs_append uses es fs xs ys a.1 b)

pub first_alike : (uses : Uses) (es fs : List Env) → EnvsAlike uses es fs
    → AreAlike uses (first_env es) (first_env fs)
first_alike uses [] [] a = alike_itself uses []
first_alike uses [] (f ∷ fs) a = absurd a
first_alike uses (e ∷ es) [] a = absurd a
first_alike uses (e ∷ es) (f ∷ fs) a = a.0

pub meanings_alike : (uses : Uses) (es fs : List Env) (x : Expr) → is_within uses x ≡ true
    → EnvsAlike uses es fs → map (λ env. meaning env x) es ≡ map (λ env. meaning env x) fs
meanings_alike uses [] [] x h a = refl
meanings_alike uses [] (f ∷ fs) x h a = absurd a
meanings_alike uses (e ∷ es) [] x h a = absurd a
meanings_alike uses (e ∷ es) (f ∷ fs) x h a =
    ap₂ (λ (v : Value) vs. v ∷ vs) (same_meaning uses e f a.0 x h) (meanings_alike uses es fs x h a.1)

pub filtered_alike : (uses : Uses) (condition : Option Expr) (rs ss : List Bound)
    → condition_within uses condition ≡ true → RowsAlike uses rs ss
    → EnvsAlike uses (filter_map (env_where condition) rs) (filter_map (env_where condition) ss)
filtered_alike uses condition [] [] h alike = tt
filtered_alike uses condition [] (s ∷ ss) h alike = absurd alike
filtered_alike uses condition (r ∷ rs) [] h alike = absurd alike
filtered_alike uses condition (r ∷ rs) (s ∷ ss) h alike =
    subst (λ b. EnvsAlike uses
    (cons_option (cond (passes condition r.env) (Some r.env) None) (filter_map (env_where condition) rs))
    (cons_option (cond b (Some s.env) None) (filter_map (env_where condition) ss)))
    (passes_alike uses condition r.env s.env h alike.0.0)
    (by (passes condition r.env) (filtered_alike uses condition rs ss h alike.1))
  where
    by : (b : Bool)
        → EnvsAlike uses (filter_map (env_where condition) rs) (filter_map (env_where condition) ss)
        → EnvsAlike uses
        (cons_option (cond b (Some r.env) None) (filter_map (env_where condition) rs))
        (cons_option (cond b (Some s.env) None) (filter_map (env_where condition) ss))
    by true later = (alike.0.0, later)
    by false later = later
