-- One document more, the end of a walk, and the answer.
use Rattle.std.proofs.Common.{◌≡◌, ◌⊎◌, inl, inr, ℕ, zero, suc, ◌+◌, ◌≤◌, List, [], ◌∷◌, ◌++◌, length, map, drop, take, Bool, true, false, cond, Option, Some, None, refl, ap, ap₂, sym, subst, ◌∙◌, append_assoc, arith, length-append, length-take, length-drop}
use Rattle.std.proofs.lemmas.Grind.{flat_map-append}
use Rattle.std.proofs.lemmas.Bool.{leb-true}
use Rattle.std.proofs.lemmas.List.{append-nil, length-take-le}
use Rattle.std.specs.List.{cons_option, flat_map}
use Rattle.std.specs.List.Sorted.{IsStrictlySortedBy}
use Rattle.std.specs.Ordering.{nat_cmp}
use Rattle.ax_tree.specs.declared.tree.Tree.{Tree}
use Rattle.ax_mean.specs.declared.expr.Expr.{Expr}
use Rattle.ax_mean.specs.declared.query.KeyedRow.{KeyedRow}
use Rattle.ax_mean.specs.declared.query.Order.{Order}
use Rattle.ax_mean.specs.declared.query.Query.{Query}
use Rattle.ax_mean.specs.Aggregates.{has_groups, has_some}
use Rattle.ax_mean.specs.Answer.{all_rows, answer, distinct_where, finish, limited, sorted}
use Rattle.ax_mean.specs.Meaning.{Env}
use Rattle.ax_mean.specs.RowOrder.{key_cmp}
use Rattle.ax_mean.specs.Rows.{Bound, envs_of_tree, keyed_rows, passes, rows_of_tree}
use Rattle.ax_rows.specs.declared.front.FrontRows as front
use Rattle.ax_rows.specs.declared.least.LeastRows as least
use Rattle.ax_rows.specs.Front.{IsFront, fresh, reaches, room_of}
use Rattle.ax_rows.specs.Least.{HoldsLeast}
use Rattle.ax_rows.specs.Taking.{Gains}
use Rattle.ax_rows.proofs.InOrder.{answer_from}
use Rattle.ax_group.specs.declared.groups.Groups as groups
use Rattle.ax_group.specs.States.{Holds}
use Rattle.ax_result.specs.Groups.{all_envs, group_answer, group_rows}
use Rattle.ax_result.specs.Answers.{answer_of}
use Rattle.ax_answer.specs.declared.group_rows.GroupTaker.{GroupTaker}
use Rattle.ax_answer.specs.declared.held.Held as held
use Rattle.ax_answer.specs.declared.held.Held.TheVariants.{Nothing, InGroups, Front, Least}
use Rattle.ax_answer.specs.Gathering.{GathersIn, HasEnough, KeepsLeast, wants_rows}
use Rattle.ax_answer.specs.Grouping.{GroupsAsked, TakesGroups, group_keeps}

grown : {X Y : Type 0} (f : X → List Y) (xs : List X) (x : X)
    → flat_map f (xs ++ x ∷ []) ≡ flat_map f xs ++ f x
grown f [] x = append-nil (f x)
grown f (y ∷ ys) x =
    ap (λ zs. f y ++ zs) (grown f ys x) ∙ sym (append_assoc (f y) (flat_map f ys) (f x))

-- ---- one document more

module _ (query : Query) (entries : List (ℕ × Tree)) (number : ℕ) (tree : Tree) where
  abbrev rows_now : List KeyedRow
  rows_now = all_rows query entries ++ keyed_rows query number tree

  more_rows : all_rows query (entries ++ (number, tree) ∷ []) ≡ rows_now
  more_rows = grown (λ e. keyed_rows query e.0 e.1) entries (number, tree)

  more_envs : all_envs query (entries ++ (number, tree) ∷ []) ≡ all_envs query entries ++ envs_of_tree query tree
  more_envs = grown (λ e. envs_of_tree query e.1) entries (number, tree)

  pub in_groups : (old new : groups.Groups)
      → ((asked : Query) (envs : List Env) → Holds old asked envs
      → Holds new asked (envs ++ envs_of_tree query tree))
      → GathersIn (InGroups old) query entries
      → GathersIn (InGroups new) query (entries ++ (number, tree) ∷ [])
  in_groups old new added gathers = (
    gathers.0,
    gathers.1,
    subst (λ (envs : List Env). Holds new query envs) (sym more_envs)
        (added query (all_envs query entries) gathers.2),
  )

  pub in_front : (old new : front.FrontRows)
      → ((distinct : Bool) (skip : ℕ) (limit : Option ℕ) (rows : List KeyedRow)
      → IsFront old distinct skip limit rows
      → IsFront new distinct skip limit (rows ++ keyed_rows query number tree))
      → GathersIn (Front old) query entries
      → GathersIn (Front new) query (entries ++ (number, tree) ∷ [])
  in_front old new added gathers = (
    gathers.0,
    gathers.1,
    gathers.2,
    subst (λ (rows : List KeyedRow). IsFront new query.distinct query.skip query.limit rows)
        (sym more_rows)
        (added query.distinct query.skip query.limit (all_rows query entries) gathers.3),
  )

  pub in_least : (old new : least.LeastRows)
      → ((most : ℕ) (rows : List KeyedRow) → HoldsLeast old query.orders most rows
      → HoldsLeast new query.orders most (rows ++ keyed_rows query number tree))
      → GathersIn (Least old) query entries
      → GathersIn (Least new) query (entries ++ (number, tree) ∷ [])
  in_least old new added gathers =
      let kept : KeepsLeast old query entries = gathers.4 in (
        gathers.0,
        gathers.1,
        gathers.2,
        gathers.3,
        (
          kept.0,
          kept.1,
          subst (λ (rows : List KeyedRow). HoldsLeast new query.orders kept.0 rows) (sym more_rows)
              (added kept.0 (all_rows query entries) kept.2),
        ),
      )

  pub in_every : (old new : List KeyedRow) → new ≡ old ++ keyed_rows query number tree
      → (wants_rows query.limit ≡ true) × (has_groups query ≡ false) × (has_some query.orders ≡ true)
      × (old ≡ all_rows query entries)
      → (wants_rows query.limit ≡ true) × (has_groups query ≡ false) × (has_some query.orders ≡ true)
      × (new ≡ all_rows query (entries ++ (number, tree) ∷ []))
  in_every old new is gathers = (
    gathers.0,
    gathers.1,
    gathers.2,
    is ∙ ap (λ rows. rows ++ keyed_rows query number tree) gathers.3 ∙ sym more_rows,
  )

-- ---- the answer

none_limited : (limit : Option ℕ) (rows : List KeyedRow) → wants_rows limit ≡ false
    → [] ≡ limited limit rows
none_limited None rows e = absurd (cc)
none_limited (Some zero) rows e = refl
none_limited (Some (suc limit)) rows e = absurd (cc)

none_finished : (query : Query) (rows : List KeyedRow) → wants_rows query.limit ≡ false
    → [] ≡ finish query rows
none_finished query rows e = none_limited query.limit _ e

in_either : {X : Type 0} (b : Bool) (found x y : X) → found ≡ x → found ≡ y → found ≡ cond b x y
in_either true found x y e f = e
in_either false found x y e f = f

pub answered_nothing : (query : Query) (entries : List (ℕ × Tree)) (found : List KeyedRow)
    → found ≡ [] → GathersIn Nothing query entries → found ≡ answer_of query entries
answered_nothing query entries found is gathers =
    is ∙ in_either (has_groups query) [] (group_answer query entries) (answer query entries)
    (none_finished query (group_rows query (all_envs query entries)) gathers)
    (none_finished query (all_rows query entries) gathers)

with_groups : (query : Query) (entries : List (ℕ × Tree)) → has_groups query ≡ true
    → group_answer query entries ≡ answer_of query entries
with_groups query entries e =
    ap (λ b. cond b (group_answer query entries) (answer query entries)) (sym e)

without_groups : (query : Query) (entries : List (ℕ × Tree)) → has_groups query ≡ false
    → answer query entries ≡ answer_of query entries
without_groups query entries e =
    ap (λ b. cond b (group_answer query entries) (answer query entries)) (sym e)

pub answered_in_groups : (query : Query) (entries : List (ℕ × Tree)) (held : groups.Groups)
    (rows found : List KeyedRow)
    → ((asked : Query) (envs : List Env) → Holds held asked envs → rows ≡ group_rows asked envs)
    → found ≡ finish query rows → GathersIn (InGroups held) query entries
    → found ≡ answer_of query entries
answered_in_groups query entries held rows found made is gathers =
    is ∙ ap (finish query) (made query (all_envs query entries) gathers.2)
    ∙ with_groups query entries gathers.1

pub answered_in_every : (query : Query) (entries : List (ℕ × Tree)) (rows found : List KeyedRow)
    → found ≡ finish query rows → has_groups query ≡ false → rows ≡ all_rows query entries
    → found ≡ answer_of query entries
answered_in_every query entries rows found is none all =
    is ∙ ap (finish query) all ∙ without_groups query entries none

-- the rows in their order, where the query has no groups
in_order : (query : Query) (rows : List KeyedRow) → has_groups query ≡ false
    → limited query.limit (drop query.skip (distinct_where query.distinct (sorted (key_cmp query.orders) rows)))
    ≡ finish query rows
in_order query rows e =
    ap (λ (b : Bool). limited query.limit (drop query.skip (distinct_where query.distinct
    (cond b rows (sorted (key_cmp query.orders) rows))))) (sym e)

pub answered_in_least : (query : Query) (entries : List (ℕ × Tree)) (held : least.LeastRows)
    (found : List KeyedRow)
    → ((orders : List Order) (most : ℕ) (rows : List KeyedRow) → room_of query.skip query.limit ≡ Some most
    → HoldsLeast held orders most rows
    → found ≡ limited query.limit (drop query.skip (sorted (key_cmp orders) rows)))
    → GathersIn (Least held) query entries → found ≡ answer_of query entries
answered_in_least query entries held found is gathers =
    let kept : KeepsLeast held query entries = gathers.4 in
    is query.orders kept.0 (all_rows query entries) kept.1 kept.2
    ∙ ap (λ (b : Bool). limited query.limit (drop query.skip (distinct_where b
    (sorted (key_cmp query.orders) (all_rows query entries))))) (sym gathers.3)
    ∙ in_order query (all_rows query entries) gathers.1
    ∙ without_groups query entries gathers.1

pub answered_in_front : (query : Query) (entries : List (ℕ × Tree)) (held : front.FrontRows)
    (found : List KeyedRow)
    → ((distinct : Bool) (skip : ℕ) (limit : Option ℕ) (rows : List KeyedRow)
    → IsFront held distinct skip limit rows
    → found ≡ limited limit (drop skip (distinct_where distinct rows)))
    → GathersIn (Front held) query entries → IsStrictlySortedBy nat_cmp (map (λ e. e.0) entries)
    → found ≡ answer_of query entries
answered_in_front query entries held found is gathers rising =
    is query.distinct query.skip query.limit (all_rows query entries) gathers.3
    ∙ sym (answer_from query entries rising gathers.1 gathers.2)
    ∙ without_groups query entries gathers.1

-- ---- where no further document is needed

pub full_gathers : (held : front.FrontRows) (query : Query) (entries more : List (ℕ × Tree))
    → ((distinct : Bool) (skip : ℕ) (limit : Option ℕ) (rows others : List KeyedRow)
    → IsFront held distinct skip limit rows → IsFront held distinct skip limit (rows ++ others))
    → GathersIn (Front held) query entries → GathersIn (Front held) query (entries ++ more)
full_gathers held query entries more sound gathers = (
  gathers.0,
  gathers.1,
  gathers.2,
  subst (λ (rows : List KeyedRow). IsFront held query.distinct query.skip query.limit rows)
      (sym (flat_map-append (λ e. keyed_rows query e.0 e.1) entries more))
      (sound query.distinct query.skip query.limit (all_rows query entries)
      (all_rows query more) gathers.3),
)

pub full_enough : (held : front.FrontRows) (full : Bool) (query : Query) (entries : List (ℕ × Tree))
    → ((distinct : Bool) (skip most : ℕ) (rows : List KeyedRow)
    → IsFront held distinct skip (Some most) rows
    → skip + most ≤ length (distinct_where distinct rows) → full ≡ true)
    → GathersIn (Front held) query entries → HasEnough query entries → full ≡ true
full_enough held full query entries told gathers enough =
    told query.distinct query.skip enough.limit (all_rows query entries)
    (subst (λ (limit : Option ℕ). IsFront held query.distinct query.skip limit (all_rows query entries))
    enough.limited gathers.3)
    enough.many

-- a full front has as many rows as OFFSET and LIMIT choose among
module _ (held : front.FrontRows) (query : Query) (entries : List (ℕ × Tree))
    (full : reaches held.limit (length held.rows.items) ≡ true) (gathers : GathersIn (Front held) query entries) where
  abbrev kept_rows : List KeyedRow
  kept_rows = distinct_where query.distinct (all_rows query entries)

  many_rows : (n : ℕ) → query.limit ≡ Some (suc n) → query.skip + suc n ≤ length kept_rows
  many_rows n limit =
      let here : held.limit ≡ Some (suc n) = gathers.3.has_limit ∙ limit in
      let more : List KeyedRow = held.rows.items ++ drop held.left (fresh held.seen []) in
      let filled : suc n ≤ length held.rows.items =
      leb-true (suc n) (length held.rows.items) (ap (λ l. reaches l (length held.rows.items)) (sym here) ∙ full) in
      let long : suc n ≤ length more = omega (arith, filled, length-append held.rows.items (drop held.left (fresh held.seen []))) in
      let same : take (suc n) more ≡ take (suc n) (drop query.skip kept_rows) =
      ap (λ l. limited l more) (sym here) ∙ gathers.3.leads []
      ∙ ap₂ (λ l rows. limited l (drop query.skip (distinct_where query.distinct rows))) limit (append-nil (all_rows query entries)) in
      let taken : length (take (suc n) (drop query.skip kept_rows)) ≡ suc n =
      ap length (sym same) ∙ length-take-le (suc n) more long in
      omega (arith, taken, length-take (suc n) (drop query.skip kept_rows), length-drop query.skip kept_rows)

  pub full_has_enough : HasEnough query entries
  full_has_enough = by query.limit refl
    where
      by : (limit : Option ℕ) → query.limit ≡ limit → HasEnough query entries
      by None is =
          let none : reaches None (length held.rows.items) ≡ true =
          ap (λ l. reaches l (length held.rows.items)) (sym (gathers.3.has_limit ∙ is)) ∙ full in
          absurd cc
      by (Some zero) is =
          let none : wants_rows (Some 0) ≡ true = ap wants_rows (sym is) ∙ gathers.0 in
          absurd cc
      by (Some (suc n)) is = record {
        no_groups = gathers.1;
        no_orders = gathers.2;
        limit = suc n;
        limited = is;
        many = many_rows n is;
      }

limit_wanted : (limit : Option ℕ) → wants_rows limit ≡ true → limit ≡ Some 0 → ⊥
limit_wanted limit wanted e = let none : wants_rows limit ≡ false = ap wants_rows e in absurd (cc)

pub none_without : (query : Query) (b : Bool) → wants_rows query.limit ≡ true
    → query.limit ≡ Some 0 → b ≡ true
none_without query b wanted e = absurd (limit_wanted query.limit wanted e)

-- ---- rows into groups

passes_by : (asked : GroupsAsked) (condition : Option Expr) (bound : Bound) (b : Bool)
    → condition ≡ asked.condition → b ≡ passes condition bound.env
    → group_keeps asked bound ≡ cond b (Some bound.env) None
passes_by asked condition bound b by is =
    sym (ap (λ (t : Bool). cond t (Some bound.env) None) (is ∙ ap (λ c. passes c bound.env) by))

pub row_left_out : (taker : GroupTaker) (bound : Bound) (b : Bool)
    → b ≡ passes taker.condition.now bound.env → b ≡ false
    → Gains TakesGroups group_keeps taker (bound ∷ []) taker
row_left_out taker bound b is fails asked envs takes =
    let none : group_keeps asked bound ≡ None =
    passes_by asked taker.condition.now bound b takes.by is
    ∙ ap (λ (t : Bool). cond t (Some bound.env) None) fails in
    subst (λ (o : Option Env). TakesGroups taker asked (envs ++ cons_option o [])) (sym none)
    (subst (TakesGroups taker asked) (sym (append-nil envs)) takes)

pub row_put : (old new : GroupTaker) (bound : Bound) (b : Bool)
    → b ≡ passes old.condition.now bound.env → b ≡ true → new.condition.now ≡ old.condition.now
    → ((query : Query) (envs : List Env) → Holds old.groups query envs
    → Holds new.groups query (envs ++ bound.env ∷ []))
    → Gains TakesGroups group_keeps old (bound ∷ []) new
row_put old new bound b is yes_so by put asked envs takes =
    let some : group_keeps asked bound ≡ Some bound.env =
    passes_by asked old.condition.now bound b takes.by is
    ∙ ap (λ (t : Bool). cond t (Some bound.env) None) yes_so in
    subst (λ (o : Option Env). TakesGroups new asked (envs ++ cons_option o [])) (sym some)
    (record { by = by ∙ takes.by; groups = put asked.query envs takes.groups })

pub rows_put : (old new : GroupTaker) (query : Query) (tree : Tree)
    → Gains TakesGroups group_keeps old (rows_of_tree query.froms tree) new
    → old.condition.now ≡ query.condition → (asked : Query) (envs : List Env) → Holds old.groups asked envs
    → Holds new.groups asked (envs ++ envs_of_tree query tree)
rows_put old new query tree gains by asked envs holds =
    (gains (record { query = asked; condition = query.condition }) envs
    (record { by = by; groups = holds })).groups

pub full_done : (kept : held.Held) (rows : front.FrontRows) (query : Query)
    (entries more : List (ℕ × Tree)) → kept ≡ Front rows
    → ((distinct : Bool) (skip : ℕ) (limit : Option ℕ) (some others : List KeyedRow)
    → IsFront rows distinct skip limit some → IsFront rows distinct skip limit (some ++ others))
    → GathersIn kept query entries → GathersIn kept query (entries ++ more)
full_done kept rows query entries more is sound gathers =
    subst (λ (h : held.Held). GathersIn h query (entries ++ more)) (sym is)
    (full_gathers rows query entries more sound
    (subst (λ (h : held.Held). GathersIn h query entries) is gathers))

-- what is kept is seen as that which it is
pub seen_as : (kept it : held.Held) (query : Query) (entries : List (ℕ × Tree)) → kept ≡ it
    → GathersIn kept query entries → GathersIn it query entries
seen_as kept it query entries is gathers = subst (λ (h : held.Held). GathersIn h query entries) is gathers

-- an answer that is done with its front has enough
pub done_with_enough : (kept : held.Held) (rows : front.FrontRows) (query : Query) (entries : List (ℕ × Tree)) → kept ≡ Front rows
    → reaches rows.limit (length rows.rows.items) ≡ true → GathersIn kept query entries
    → (query.limit ≡ Some 0) ⊎ HasEnough query entries
done_with_enough kept rows query entries is full gathers =
    inr (full_has_enough rows query entries full (seen_as kept (Front rows) query entries is gathers))

-- where no row is wanted the limit is 0
pub done_with_none : (query : Query) (entries : List (ℕ × Tree)) → wants_rows query.limit ≡ false
    → (query.limit ≡ Some 0) ⊎ HasEnough query entries
done_with_none query entries none = by query.limit refl
  where
    by : (limit : Option ℕ) → query.limit ≡ limit → (query.limit ≡ Some 0) ⊎ HasEnough query entries
    by None is = let wanted : wants_rows None ≡ false = ap wants_rows (sym is) ∙ none in absurd cc
    by (Some zero) is = inl is
    by (Some (suc n)) is = let wanted : wants_rows (Some (suc n)) ≡ false = ap wants_rows (sym is) ∙ none in absurd cc

pub same_query : (own query : Query) (kept : held.Held) (entries : List (ℕ × Tree))
    (rows : List KeyedRow) → own ≡ query
    → ((some : List (ℕ × Tree)) → GathersIn kept own some
    → IsStrictlySortedBy nat_cmp (map (λ e. e.0) some) → rows ≡ answer_of own some)
    → GathersIn kept query entries → IsStrictlySortedBy nat_cmp (map (λ e. e.0) entries)
    → rows ≡ answer_of query entries
same_query own query kept entries rows is made gathers rising =
    made entries (subst (λ (q : Query). GathersIn kept q entries) (sym is) gathers) rising
    ∙ ap (λ (q : Query). answer_of q entries) is
