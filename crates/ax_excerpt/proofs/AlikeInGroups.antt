-- Rows that are alike stand in groups that are alike, and these show the same.
use Rattle.std.proofs.Common.{◌≡◌, List, [], ◌∷◌, true, false, refl, ap₂, subst}
use Rattle.std.specs.Prelude.{⊤}
use Rattle.std.specs.declared.cmp.Ordering.{Ordering}
use Rattle.std.specs.declared.cmp.Ordering.TheVariants.{Less, Equal, Greater}
use Rattle.std.specs.List.{list_all, filter_map, cons_option}
use Rattle.std.proofs.lemmas.Bool.{and_parts}
use Rattle.ax_mean.specs.declared.expr.Expr.{Expr}
use Rattle.ax_mean.specs.declared.query.Pick.{Pick}
use Rattle.ax_mean.specs.declared.value.Value.{Value}
use Rattle.ax_mean.specs.Meaning.{Env}
use Rattle.ax_mean.specs.Rows.{keyed}
use Rattle.ax_excerpt.specs.Uses.{Uses, is_within}
use Rattle.ax_excerpt.specs.Enough.{pick_within}
use Rattle.ax_excerpt.proofs.Meanings.{AreAlike, same_meaning}
use Rattle.ax_result.specs.Groups.{Group, group_values, values_cmp, placed, with_row, groups_before, with_rows, first_env, group_row}
use Rattle.ax_excerpt.proofs.EnvsAlike.{EnvsAlike, envs_append, first_alike}
use Rattle.ax_excerpt.proofs.TotalsAlike.{same_shown}

abbrev GroupAlike : Uses → Group → Group → Type 0
GroupAlike uses g h = (g.values ≡ h.values) × EnvsAlike uses g.envs h.envs

abbrev GroupsAlike : Uses → List Group → List Group → Type 0
GroupsAlike uses [] [] = ⊤
GroupsAlike uses [] (h ∷ hs) = ⊥
GroupsAlike uses (g ∷ gs) [] = ⊥
GroupsAlike uses (g ∷ gs) (h ∷ hs) = GroupAlike uses g h × GroupsAlike uses gs hs

module _ (uses : Uses) (exprs : List Expr) (within_all : list_all (is_within uses) exprs ≡ true) where
  values_same : (xs : List Expr) (old new : Env) → AreAlike uses old new
      → list_all (is_within uses) xs ≡ true → group_values xs old ≡ group_values xs new
  values_same [] old new one h = refl
  values_same (x ∷ xs) old new one h =
      let both = and_parts (is_within uses x) _ h in
      ap₂ (λ (v : Value) vs. v ∷ vs) (same_meaning uses old new one x both.0)
      (values_same xs old new one both.1)

  placed_alike : (o : Ordering) (values : List Value) (old new : Env) (g h : Group)
      (gs hs rest more : List Group) → AreAlike uses old new → GroupAlike uses g h
      → GroupsAlike uses gs hs → GroupsAlike uses rest more
      → GroupsAlike uses (placed o values old g gs rest) (placed o values new h hs more)
  placed_alike Less values old new g h gs hs rest more one first others later =
      ((refl, (one, tt)), (first, others))
  placed_alike Equal values old new g h gs hs rest more one first others later =
      ((first.0, envs_append uses g.envs h.envs (old ∷ []) (new ∷ []) first.1 (one, tt)), others)
  placed_alike Greater values old new g h gs hs rest more one first others later = (first, later)

  row_alike : (values : List Value) (old new : Env) (gs hs : List Group) → AreAlike uses old new
      → GroupsAlike uses gs hs → GroupsAlike uses (with_row values old gs) (with_row values new hs)
  row_alike values old new [] [] one groups = ((refl, (one, tt)), tt)
  row_alike values old new [] (h ∷ hs) one groups = absurd groups
  row_alike values old new (g ∷ gs) [] one groups = absurd groups
  row_alike values old new (g ∷ gs) (h ∷ hs) one groups =
      subst (λ (vs : List Value). GroupsAlike uses
      (placed (values_cmp values g.values) values old g gs (with_row values old gs))
      (placed (values_cmp values vs) values new h hs (with_row values new hs))) groups.0.0
      (placed_alike (values_cmp values g.values) values old new g h gs hs _ _ one groups.0 groups.1
      (row_alike values old new gs hs one groups.1))

  pub all_alike : (olds news : List Env) (gs hs : List Group) → EnvsAlike uses olds news
      → GroupsAlike uses gs hs → GroupsAlike uses (with_rows exprs gs olds) (with_rows exprs hs news)
  all_alike [] [] gs hs envs groups = groups
  all_alike [] (f ∷ fs) gs hs envs groups = absurd envs
  all_alike (e ∷ es) [] gs hs envs groups = absurd envs
  all_alike (e ∷ es) (f ∷ fs) gs hs envs groups =
      all_alike es fs _ _ envs.1
      (subst (λ (vs : List Value). GroupsAlike uses (with_row (group_values exprs e) e gs) (with_row vs f hs))
      (values_same exprs e f envs.0 within_all)
      (row_alike (group_values exprs e) e f gs hs envs.0 groups))

  pub before_alike : (xs : List Expr) → GroupsAlike uses (groups_before xs) (groups_before xs)
  before_alike [] = ((refl, tt), tt)
  before_alike (x ∷ xs) = tt

  pub rows_shown : (picked : Pick) (gs hs : List Group) → pick_within false uses picked ≡ true
      → GroupsAlike uses gs hs → filter_map (group_row picked) gs ≡ filter_map (group_row picked) hs
  rows_shown picked [] [] h groups = refl
  rows_shown picked [] (k ∷ ks) h groups = absurd groups
  rows_shown picked (g ∷ gs) [] h groups = absurd groups
  rows_shown picked (g ∷ gs) (k ∷ ks) h groups =
      ap₂ cons_option
      (ap₂ (λ (vs : List Value) v. keyed vs 0 [] v) groups.0.0
      (same_shown uses g.envs k.envs groups.0.1 (first_env g.envs) (first_env k.envs)
      (first_alike uses g.envs k.envs groups.0.1) picked h))
      (rows_shown picked gs ks h groups.1)
