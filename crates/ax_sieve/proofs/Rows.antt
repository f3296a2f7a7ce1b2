-- The alias of a first source that is the document stands for it in each row, whatever sources follow;
-- and where no row passes WHERE there are no rows.
use Rattle.std.proofs.Common.{◌≡◌, ℕ, List, [], ◌∷◌, ◌++◌, Bool, true, false, Option, Some, None, ◌≤◌, get_or, length, cond, refl, sym, ap, ◌∙◌, subst, arith, rules}
use Rattle.std.specs.List.{All, flat_map, filter_map, cons_option}
use Rattle.std.specs.Str.{bytes_eq}
use Rattle.std.proofs.lemmas.Bool.{false≢true}
use Rattle.std.proofs.lemmas.List.Elements.{All-append, All-cons, All-head, All-nil, All-tail}
use Rattle.std.proofs.lemmas.Slice.Eq.{bytes_eq-Decides}
use Rattle.ax_tree.specs.declared.tree.Tree.{Tree}
use Rattle.ax_mean.specs.declared.expr.Expr.{Expr}
use Rattle.ax_mean.specs.declared.query.FromItem.{FromItem}
use Rattle.ax_mean.specs.declared.query.KeyedRow.{KeyedRow}
use Rattle.ax_mean.specs.declared.query.Query.{Query}
use Rattle.ax_mean.specs.declared.value.Value.{Value}
use Rattle.ax_mean.specs.declared.value.Value.TheVariants.{Undefined, Defined}
use Rattle.ax_mean.specs.Meaning.{Env, bound}
use Rattle.ax_mean.specs.Rows.{Bound, Choice, choices, with_choice, rows_from, nothing_bound, rows_of_tree, passes, env_where, envs_of_tree, keyed, keyed_where, keyed_rows, order_values, shown}
use Rattle.ax_mean.specs.Steps.{steps_from}
use Rattle.ax_sieve.specs.declared.condition.Condition.{Condition}
use Rattle.ax_sieve.specs.Conditions.{one_fails}
use Rattle.ax_sieve.specs.Operands.{StandsFor, are_true, is_true}
use Rattle.ax_sieve.proofs.Conjunctions.{Tells}

-- ---- what the alias of the first source stands for

module _ (alias : List ℕ) (tree : Tree) where
  abbrev Stands : Bound → Type 0
  Stands row = StandsFor row.env alias tree

  -- what an alias stands for is not changed by aliases behind it
  still : (env more : Env) → StandsFor env alias tree → StandsFor (env ++ more) alias tree
  still [] more h = absurd (let e : ⊥ = cc in e)
  still ((name, value) ∷ env) more h = by (bytes_eq name alias) (still env more) h
    where
      by : (same : Bool) → (StandsFor env alias tree → StandsFor (env ++ more) alias tree)
          → cond same value (bound env alias) ≡ Defined tree
          → cond same value (bound (env ++ more) alias) ≡ Defined tree
      by true rest h = h
      by false rest h = rest h

  itself : (more : Env) → StandsFor ((alias, Defined tree) ∷ more) alias tree
  itself more =
      ap (λ same. cond same (Defined tree) (bound more alias)) (same_bytes alias)
    where
      same_bytes : (xs : List ℕ) → bytes_eq xs xs ≡ true
      same_bytes xs = search rules

  of_choices : (f : Choice → List Bound) → ((c : Choice) → All Stands (f c)) → (cs : List Choice)
      → All Stands (flat_map f cs)
  of_choices f h [] = All-nil Stands
  of_choices f h (c ∷ cs) = All-append Stands (f c) (flat_map f cs) (h c) (of_choices f h cs)

  grown : (items : List FromItem) (row : Bound) → Stands row → All Stands (rows_from items row)
  grown [] row h = All-cons Stands row [] h (All-nil Stands)
  grown (item ∷ items) row h =
      of_choices (λ c. rows_from items (with_choice item.alias row c))
      (λ c. grown items (with_choice item.alias row c) (still row.env ((item.alias, Defined c.tree) ∷ []) h))
      (choices item.each (steps_from (bound row.env item.base) item.steps))

no_items : {A : Type 0} (xs : List A) → length xs ≡ 0 → xs ≡ []
no_items [] none = refl
no_items (x ∷ xs) none = absurd (let e : ⊥ = omega (arith, none) in e)

stands_before : (item : FromItem) (items : List FromItem) → item.each ≡ false → item.steps ≡ []
    → (tree : Tree) → All (λ row. StandsFor row.env item.alias tree) (rows_of_tree (item ∷ items) tree)
stands_before item items not_each no_steps tree =
    let P : Bound → Type 0 = λ row. StandsFor row.env item.alias tree in
    let whole : Choice = record { positions = []; tree = tree } in
    let rows : List Choice → List Bound = flat_map (λ c. rows_from items (with_choice item.alias nothing_bound c)) in
    let chosen : choices item.each (steps_from (Defined tree) item.steps) ≡ whole ∷ [] =
    ap (λ each. choices each (steps_from (Defined tree) item.steps)) not_each
    ∙ ap (λ steps. choices false (steps_from (Defined tree) steps)) no_steps in
    let first : Bound = with_choice item.alias nothing_bound whole in
    let all : All P (rows (whole ∷ [])) =
    All-append P (rows_from items first) [] (grown item.alias tree items first (itself item.alias tree [])) (All-nil P) in
    subst (λ cs. All P (rows cs)) (sym chosen) all

pub stands_in_each : (froms : List FromItem) (item : FromItem) → 1 ≤ length froms
    → item ≡ get_or froms 0 item → item.each ≡ false → length item.steps ≡ 0 → (tree : Tree)
    → All (λ row. StandsFor row.env item.alias tree) (rows_of_tree froms tree)
stands_in_each [] item some is not_each no_steps tree = absurd (let e : ⊥ = omega (arith, some) in e)
stands_in_each (first ∷ items) item some is not_each no_steps tree =
    subst (λ (x : FromItem). All (λ row. StandsFor row.env item.alias tree) (rows_of_tree (x ∷ items) tree)) is
    (stands_before item items not_each (no_items item.steps no_steps) tree)

-- ---- rows of which none passes

-- the environment does not pass WHERE
abbrev Fails : Option Expr → Bound → Type 0
Fails condition row = passes condition row.env ≡ false

nothing_left : {A : Type 0} (keep : Bound → Option A) (P : Bound → Type 0)
    → ((row : Bound) → P row → keep row ≡ None) → (rows : List Bound) → All P rows
    → filter_map keep rows ≡ []
nothing_left keep P none [] all = refl
nothing_left keep P none (row ∷ rows) all =
    ap (λ kept. cons_option kept (filter_map keep rows)) (none row (All-head P row rows all))
    ∙ nothing_left keep P none rows (All-tail P row rows all)

not_passed : (condition : Expr) (alias : List ℕ) (xs : List Expr) (cs : List Condition)
    → ((env : Env) → is_true env condition ≡ true → are_true env xs ≡ true) → Tells alias xs cs
    → (tree : Tree) → one_fails cs tree ≡ true → (env : Env) → StandsFor env alias tree
    → is_true env condition ≡ false
not_passed condition alias xs cs needs tells tree fails env stands =
    by (is_true env condition) refl
  where
    by : (yes : Bool) → is_true env condition ≡ yes → yes ≡ false
    by false is = refl
    by true is = absurd (false≢true (sym (tells env tree stands fails) ∙ needs env is))

pub no_rows : (query : Query) (condition : Expr) (alias : List ℕ) (xs : List Expr) (cs : List Condition)
    → query.condition ≡ Some condition
    → ((tree : Tree) → All (λ row. StandsFor row.env alias tree) (rows_of_tree query.froms tree))
    → ((env : Env) → is_true env condition ≡ true → are_true env xs ≡ true) → Tells alias xs cs
    → (tree : Tree) → one_fails cs tree ≡ true
    → (envs_of_tree query tree ≡ []) × ((number : ℕ) → keyed_rows query number tree ≡ [])
no_rows query condition alias xs cs is stands needs tells tree fails =
    let P : Bound → Type 0 = λ row. StandsFor row.env alias tree in
    let rows = rows_of_tree query.froms tree in
    let fails_in : (row : Bound) → P row → passes query.condition row.env ≡ false =
    λ row h. ap (λ condition. passes condition row.env) is
    ∙ not_passed condition alias xs cs needs tells tree fails row.env h in (
      nothing_left (env_where query.condition) P
          (λ row h. ap (λ passed. cond passed (Some row.env) None) (fails_in row h)) rows (stands tree),
      λ number. nothing_left (keyed_where query number (order_values query tree)) P
          (λ row h. ap (λ passed. cond passed (keyed (order_values query tree) number row.place (shown query.pick row.env)) None)
          (fails_in row h)) rows (stands tree),
    )
