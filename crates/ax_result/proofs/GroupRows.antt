-- Each row that passes is in exactly the group of its tuple, in order; with GROUP BY each group has a
-- row.
use Rattle.std.proofs.Common.{◌≡◌, List, [], ◌∷◌, ◌++◌, filter, Bool, true, false, ◌||◌, cond, All, refl, sym, ap, ◌∙◌, append_assoc, append-nil}
use Rattle.std.proofs.lemmas.Bool.{false≢true}
use Rattle.std.proofs.lemmas.Cmp.{tied_itself}
use Rattle.std.proofs.lemmas.List.Elements.{All-nil, All-cons}
use Rattle.std.specs.declared.cmp.Ordering.{Ordering}
use Rattle.std.specs.declared.cmp.Ordering.TheVariants.{Less, Equal, Greater}
use Rattle.std.specs.List.{AllByRecursion}
use Rattle.std.specs.Ordering.{is_eq}
use Rattle.ax_mean.specs.declared.expr.Expr.{Expr}
use Rattle.ax_mean.specs.declared.value.Value.{Value}
use Rattle.ax_mean.specs.Aggregates.{has_some}
use Rattle.ax_mean.specs.Meaning.{Env}
use Rattle.ax_result.specs.Groups.{Group, group_values, values_cmp, placed, with_row, groups_before, with_rows, groups_of, has_tuple, is_of}
use Rattle.ax_result.proofs.Tuples.{values_total, turned, same_right, IsBelow, Rise, further_below, rise_parts, rise_with, rise_before, groups_rise}

as_all : {X : Type 0} (P : X → Type 0) (xs : List X) → AllByRecursion P xs → All P xs
as_all P [] h = All-nil P
as_all P (x ∷ xs) h = All-cons P x xs h.0 (as_all P xs h.1)

-- ---- the rows at a tuple

-- the rows of the first group with that tuple
abbrev rows_at : List Value → List Group → List Env
rows_at values [] = []
rows_at values (group ∷ groups) =
    cond (is_eq (values_cmp values group.values)) group.envs (rows_at values groups)

none_at : (v : List Value) (groups : List Group) → IsBelow v groups → rows_at v groups ≡ []
none_at v [] below = refl
none_at v (group ∷ groups) below =
    ap (λ o. cond (is_eq o) group.envs (rows_at v groups)) below.0 ∙ none_at v groups below.1

abbrev Stepped : Ordering → List Env → Env → List Env
Stepped o envs env = cond (is_eq o) (envs ++ env ∷ []) envs

abbrev IsStep : List Value → List Value → Env → List Group → Type 0
IsStep v w env groups =
    rows_at v (with_row w env groups) ≡ Stepped (values_cmp v w) (rows_at v groups) env

one_step : (v w : List Value) (env : Env) (groups : List Group) → Rise groups
    → rows_at v (with_row w env groups) ≡ Stepped (values_cmp v w) (rows_at v groups) env
one_step v w env [] rise = refl
one_step v w env (group ∷ groups) rise =
    by (values_cmp w group.values) refl
    (one_step v w env groups (rise_parts group groups rise).1)
  where
    first_of : (o : Ordering) → values_cmp v w ≡ o → values_cmp w group.values ≡ Less
        → cond (is_eq o) (env ∷ []) (rows_at v (group ∷ groups))
        ≡ Stepped o (rows_at v (group ∷ groups)) env
    first_of Less e h = refl
    first_of Greater e h = refl
    first_of Equal e h =
        let less = values_total.congr v w group.values e ∙ h in
        ap (λ (envs : List Env). envs ++ env ∷ [])
        (sym (none_at v (group ∷ groups) (
          less,
          further_below v group.values groups less (rise_parts group groups rise).0,
        )))

    among : (o : Ordering) (rest : List Env)
        → cond (is_eq o) (group.envs ++ env ∷ []) rest
        ≡ Stepped o (cond (is_eq o) group.envs rest) env
    among Less rest = refl
    among Equal rest = refl
    among Greater rest = refl

    behind : (o : Ordering) → values_cmp v group.values ≡ o → values_cmp w group.values ≡ Greater
        → IsStep v w env groups
        → cond (is_eq o) group.envs (rows_at v (with_row w env groups))
        ≡ Stepped (values_cmp v w) (cond (is_eq o) group.envs (rows_at v groups)) env
    behind Less e h further = further
    behind Greater e h further = further
    behind Equal e h further =
        ap (λ o. Stepped o group.envs env)
        (sym (values_total.congr v group.values w e ∙ turned w group.values Greater h))

    by : (o : Ordering) → values_cmp w group.values ≡ o → IsStep v w env groups
        → rows_at v (placed o w env group groups (with_row w env groups))
        ≡ Stepped (values_cmp v w) (rows_at v (group ∷ groups)) env
    by Less h further = first_of (values_cmp v w) refl h
    by Equal h further =
        among (values_cmp v group.values) (rows_at v groups)
        ∙ ap (λ o. Stepped o (rows_at v (group ∷ groups)) env) (sym (same_right v w group.values h))
    by Greater h further = behind (values_cmp v group.values) refl h further

all_steps : (exprs : List Expr) (v : List Value) (groups : List Group) (envs : List Env)
    → Rise groups
    → rows_at v (with_rows exprs groups envs) ≡ rows_at v groups ++ filter (is_of exprs v) envs
all_steps exprs v groups [] rise = sym (append-nil (rows_at v groups))
all_steps exprs v groups (env ∷ envs) rise =
    let w = group_values exprs env in
    all_steps exprs v (with_row w env groups) envs (rise_with w env groups rise)
    ∙ ap (λ (es : List Env). es ++ filter (is_of exprs v) envs) (one_step v w env groups rise)
    ∙ by (values_cmp v w)
  where
    by : (o : Ordering)
        → Stepped o (rows_at v groups) env ++ filter (is_of exprs v) envs
        ≡ rows_at v groups ++ cond (is_eq o) (env ∷ filter (is_of exprs v) envs)
        (filter (is_of exprs v) envs)
    by Less = refl
    by Greater = refl
    by Equal = append_assoc (rows_at v groups) (env ∷ []) (filter (is_of exprs v) envs)

abbrev no_env : List Env
no_env = []

none_before : (exprs : List Expr) (v : List Value) → rows_at v (groups_before exprs) ≡ []
none_before (expr ∷ exprs) v = refl
none_before [] v = by (is_eq (values_cmp v []))
  where
    by : (b : Bool) → cond b no_env no_env ≡ no_env
    by true = refl
    by false = refl

rows_of_tuple : (exprs : List Expr) (envs : List Env) (v : List Value)
    → rows_at v (groups_of exprs envs) ≡ filter (is_of exprs v) envs
rows_of_tuple exprs envs v =
    all_steps exprs v (groups_before exprs) envs (rise_before exprs)
    ∙ ap (λ (es : List Env). es ++ filter (is_of exprs v) envs) (none_before exprs v)

-- ---- a group's own rows

not_the_head : (group : Group) (whole : List Group) (groups : List Group)
    → IsBelow group.values groups
    → AllByRecursion (λ (g : Group). g.envs ≡ rows_at g.values whole) groups
    → AllByRecursion (λ (g : Group). g.envs ≡ rows_at g.values (group ∷ whole)) groups
not_the_head group whole [] below h = tt
not_the_head group whole (g ∷ groups) below h = (
  h.0 ∙ sym (ap (λ o. cond (is_eq o) group.envs (rows_at g.values whole))
      (turned group.values g.values Less below.0)),
  not_the_head group whole groups below.1 h.1,
)

own_rows : (groups : List Group) → Rise groups
    → AllByRecursion (λ (g : Group). g.envs ≡ rows_at g.values groups) groups
own_rows [] rise = tt
own_rows (group ∷ groups) rise = (
  sym (ap (λ o. cond (is_eq o) group.envs (rows_at group.values groups))
      (tied_itself values_total group.values)),
  not_the_head group groups groups (rise_parts group groups rise).0
      (own_rows groups (rise_parts group groups rise).1),
)

filtered : (exprs : List Expr) (envs : List Env) (whole groups : List Group)
    → ((v : List Value) → rows_at v whole ≡ filter (is_of exprs v) envs)
    → AllByRecursion (λ (g : Group). g.envs ≡ rows_at g.values whole) groups
    → AllByRecursion (λ (g : Group). g.envs ≡ filter (is_of exprs g.values) envs) groups
filtered exprs envs whole [] at h = tt
filtered exprs envs whole (g ∷ groups) at h =
    (h.0 ∙ at g.values, filtered exprs envs whole groups at h.1)

pub groups_have_their_rows : (exprs : List Expr) (envs : List Env)
    → All (λ (g : Group). g.envs ≡ filter (is_of exprs g.values) envs) (groups_of exprs envs)
groups_have_their_rows exprs envs =
    let groups = groups_of exprs envs in
    as_all (λ (g : Group). g.envs ≡ filter (is_of exprs g.values) envs) groups
    (filtered exprs envs groups groups (rows_of_tuple exprs envs)
    (own_rows groups (groups_rise exprs envs)))

-- ---- no row is lost

or_yes : (a : Bool) → (a || true) ≡ true
or_yes true = refl
or_yes false = refl

own_tuple : (w : List Value) (env : Env) (groups : List Group)
    → has_tuple w (with_row w env groups) ≡ true
own_tuple w env [] = ap (λ o. is_eq o || false) (tied_itself values_total w)
own_tuple w env (group ∷ groups) =
    by (values_cmp w group.values) refl (own_tuple w env groups)
  where
    by : (o : Ordering) → values_cmp w group.values ≡ o
        → has_tuple w (with_row w env groups) ≡ true
        → has_tuple w (placed o w env group groups (with_row w env groups)) ≡ true
    by Less h further = ap (λ o. is_eq o || has_tuple w (group ∷ groups)) (tied_itself values_total w)
    by Equal h further = ap (λ o. is_eq o || has_tuple w groups) h
    by Greater h further =
        ap (λ b. is_eq (values_cmp w group.values) || b) further
        ∙ or_yes (is_eq (values_cmp w group.values))

abbrev KeepsTuple : List Value → List Value → Env → List Group → Type 0
KeepsTuple v w env groups =
    has_tuple v groups ≡ true → has_tuple v (with_row w env groups) ≡ true

kept_tuple : (v w : List Value) (env : Env) (groups : List Group) → has_tuple v groups ≡ true
    → has_tuple v (with_row w env groups) ≡ true
kept_tuple v w env [] h = absurd (false≢true h)
kept_tuple v w env (group ∷ groups) h = by (values_cmp w group.values) (kept_tuple v w env groups)
  where
    past : (b : Bool) → (b || has_tuple v groups) ≡ true → KeepsTuple v w env groups
        → (b || has_tuple v (with_row w env groups)) ≡ true
    past true e further = refl
    past false e further = further e

    by : (o : Ordering) → KeepsTuple v w env groups
        → has_tuple v (placed o w env group groups (with_row w env groups)) ≡ true
    by Less further = ap (λ b. is_eq (values_cmp v w) || b) h ∙ or_yes (is_eq (values_cmp v w))
    by Equal further = h
    by Greater further = past (is_eq (values_cmp v group.values)) h further

kept_by_rows : (exprs : List Expr) (v : List Value) (groups : List Group) (envs : List Env)
    → has_tuple v groups ≡ true → has_tuple v (with_rows exprs groups envs) ≡ true
kept_by_rows exprs v groups [] h = h
kept_by_rows exprs v groups (env ∷ envs) h =
    kept_by_rows exprs v (with_row (group_values exprs env) env groups) envs
    (kept_tuple v (group_values exprs env) env groups h)

all_have : (exprs : List Expr) (groups : List Group) (envs : List Env)
    → AllByRecursion (λ env. has_tuple (group_values exprs env) (with_rows exprs groups envs) ≡ true)
    envs
all_have exprs groups [] = tt
all_have exprs groups (env ∷ envs) =
    let w = group_values exprs env in (
      kept_by_rows exprs w (with_row w env groups) envs (own_tuple w env groups),
      all_have exprs (with_row w env groups) envs,
    )

pub rows_have_their_groups : (exprs : List Expr) (envs : List Env)
    → All (λ env. has_tuple (group_values exprs env) (groups_of exprs envs) ≡ true) envs
rows_have_their_groups exprs envs =
    as_all (λ env. has_tuple (group_values exprs env) (groups_of exprs envs) ≡ true) envs
    (all_have exprs (groups_before exprs) envs)

-- ---- each group has a row

some_more : (envs : List Env) (env : Env) → has_some (envs ++ env ∷ []) ≡ true
some_more [] env = refl
some_more (e ∷ envs) env = refl

abbrev HaveRows : List Group → Type 0
HaveRows groups = AllByRecursion (λ (g : Group). has_some g.envs ≡ true) groups

some_with : (w : List Value) (env : Env) (groups : List Group) → HaveRows groups
    → HaveRows (with_row w env groups)
some_with w env [] h = (refl, tt)
some_with w env (group ∷ groups) h =
    by (values_cmp w group.values) (some_with w env groups h.1)
  where
    by : (o : Ordering) → HaveRows (with_row w env groups)
        → HaveRows (placed o w env group groups (with_row w env groups))
    by Less further = (refl, h)
    by Equal further = (some_more group.envs env, h.1)
    by Greater further = (h.0, further)

some_with_rows : (exprs : List Expr) (groups : List Group) (envs : List Env) → HaveRows groups
    → HaveRows (with_rows exprs groups envs)
some_with_rows exprs groups [] h = h
some_with_rows exprs groups (env ∷ envs) h =
    some_with_rows exprs (with_row (group_values exprs env) env groups) envs
    (some_with (group_values exprs env) env groups h)

pub groups_have_rows : (expr : Expr) (exprs : List Expr) (envs : List Env)
    → All (λ (g : Group). has_some g.envs ≡ true) (groups_of (expr ∷ exprs) envs)
groups_have_rows expr exprs envs =
    as_all (λ (g : Group). has_some g.envs ≡ true) (groups_of (expr ∷ exprs) envs)
    (some_with_rows (expr ∷ exprs) [] envs tt)
