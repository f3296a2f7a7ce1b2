-- What is written by the grammar and obeys the rules of scope makes a query in which they hold.
use Rattle.std.proofs.Common.{◌≡◌, ℕ, ◌+◌, ◌≤◌, suc, nat_le, List, [], ◌∷◌, ◌++◌, Bool, true, false, ◌&&◌, ◌||◌, not, Option, is_some, map, length, refl, sym, ap, ap₂, ◌∙◌, subst, arith}
use Rattle.std.specs.List.{list_all, list_any}
use Rattle.std.specs.Str.{bytes_eq}
use Rattle.std.proofs.lemmas.Bool.{and_parts, false≢true, leb-true}
use Rattle.std.proofs.lemmas.List.{length-map}
use Rattle.ax_lex.specs.Lexeme.{Lexeme}
use Rattle.ax_tree.specs.declared.members.Member.{Member}
use Rattle.ax_tree.specs.declared.tree.Tree.{Tree}
use Rattle.ax_mean.specs.declared.expr.Expr.{Expr}
use Rattle.ax_mean.specs.declared.query.Query.{Query}
use Rattle.ax_mean.specs.Aggregates.{has_aggregate, has_groups, has_some, picks_aggregate}
use Rattle.ax_grammar.specs.Made.{made, pick_made, join_made, order_made}
use Rattle.ax_grammar.specs.Names.{alias_of, named_from, name_of, number_behind}
use Rattle.ax_grammar.specs.Parts.{has, are_declared, aggregates_fit, calls_fit, is_built}
use Rattle.ax_grammar.specs.Queries.{IsWritten, IsPick, ItemsFollow, IsCondition, AreGroups}
use Rattle.ax_grammar.specs.Queries.IsPick.{star, value, items}
use Rattle.ax_grammar.specs.Queries.ItemsFollow.{no_item_follows, item_follows}
use Rattle.ax_grammar.specs.Queries.IsCondition.{no_condition, conditioned}
use Rattle.ax_grammar.specs.Queries.AreGroups.{no_groups, grouped}
use Rattle.ax_grammar.specs.Query.{IsQuery}
use Rattle.ax_grammar.specs.Scope.{most_joins, most_groups, most_orders, is_empty, are_distinct, first_alias, aliases_of, bases_declared, exprs_picked, exprs_optional, sources_fit, aliases_fit, limits_fit, window_fits, pick_fits, is_grouped, aggregates_stand, groups_fit, orders_fit, obeys_rules}
use Rattle.ax_grammar.specs.Scoped.{IsScoped, PickStands, aliases_bound, are_joins, BindsDocument, exprs_shown, exprs_of_rows}
use Rattle.ax_grammar.specs.Tables.{most_items}
use Rattle.ax_grammar.specs.Written.{Item, Joined, Ordered, Picked, Written}
use Rattle.ax_grammar.specs.Written.Picked.{the_star, the_value, the_items}
use Rattle.ax_grammar.proofs.AggregatesFit.{none_fit}
use Rattle.ax_grammar.proofs.CallsFit.{expr_fits, follow_fits, as_parts}

-- ---- what is made, part by part

aliases_made : (joins : List Joined)
    → aliases_bound (map join_made joins) ≡ map (λ joined. joined.alias) joins
aliases_made [] = refl
aliases_made (joined ∷ joins) = ap (λ names. joined.alias ∷ names) (aliases_made joins)

joins_made : (bound : List (List ℕ)) (joins : List Joined)
    → are_joins bound (map join_made joins) ≡ bases_declared bound joins
joins_made bound [] = refl
joins_made bound (joined ∷ joins) =
    ap (λ b. has bound joined.base && b) (joins_made (joined.alias ∷ bound) joins)

exprs_named : (n : ℕ) (its : List Item)
    → map (λ item. item.expr) (named_from n its) ≡ map (λ item. item.expr) its
exprs_named n [] = refl
exprs_named n (item ∷ its) = ap (λ xs. item.expr ∷ xs) (exprs_named (number_behind n (name_of item)) its)

shown_made : (picked : Picked) → exprs_shown (pick_made picked) ≡ exprs_picked picked
shown_made the_star = refl
shown_made (the_value x) = refl
shown_made (the_items its) = exprs_named 1 its

length_named : (n : ℕ) (its : List Item) → length (named_from n its) ≡ length its
length_named n [] = refl
length_named n (item ∷ its) = ap suc (length_named (number_behind n (name_of item)) its)

or_false : (a : Bool) → a ≡ (a || false)
or_false true = refl
or_false false = refl

one_named_has : (n : ℕ) (its : List Item)
    → list_any (λ item. has_aggregate item.expr) (named_from n its)
    ≡ list_any has_aggregate (map (λ item. item.expr) its)
one_named_has n [] = refl
one_named_has n (item ∷ its) = ap (λ b. has_aggregate item.expr || b) (one_named_has (number_behind n (name_of item)) its)

picks_made : (picked : Picked)
    → picks_aggregate (pick_made picked) ≡ list_any has_aggregate (exprs_picked picked)
picks_made the_star = refl
picks_made (the_value x) = or_false (has_aggregate x)
picks_made (the_items its) = one_named_has 1 its

some_or_empty : {X : Type 0} (xs : List X) → has_some xs ≡ not (is_empty xs)
some_or_empty [] = refl
some_or_empty (x ∷ xs) = refl

pub groups_made : (w : Written) → has_groups (made w) ≡ is_grouped w
groups_made w = ap₂ (λ a b. a || b) (some_or_empty w.groups) (picks_made w.picked)

-- ---- lists of tests

all_joined : {X : Type 0} (test : X → Bool) (xs ys : List X) → list_all test xs ≡ true
    → list_all test ys ≡ true → list_all test (xs ++ ys) ≡ true
all_joined test [] ys h k = k
all_joined test (x ∷ xs) ys h k =
    let p = and_parts (test x) (list_all test xs) h in
    ap₂ (λ a b. a && b) p.0 (all_joined test xs ys p.1 k)

not_false : (a : Bool) → not a ≡ true → a ≡ false
not_false true h = absurd (false≢true h)
not_false false h = refl

-- a chain of tests, from the first to the last
three_parts : (a b c : Bool) → (a && b && c) ≡ true
    → (a ≡ true) × (b ≡ true) × (c ≡ true)
three_parts a b c h =
    let p = and_parts (a && b) c h in
    let q = and_parts a b p.0 in
    (q.0, q.1, p.1)

four_parts : (a b c d : Bool) → (a && b && c && d) ≡ true
    → (a ≡ true) × (b ≡ true) × (c ≡ true) × (d ≡ true)
four_parts a b c d h =
    let p = and_parts (a && b && c) d h in
    let q = three_parts a b c p.0 in
    (q.0, q.1, q.2, p.1)

-- ---- arguments

items_call : {params : List (Member Tree)} {before : List Lexeme} {its : List Item}
    {after : List Lexeme} → ItemsFollow params before its after
    → list_all calls_fit (map (λ item. item.expr) its) ≡ true
items_call no_item_follows = refl
items_call (item_follows c i f) = ap₂ (λ a b. a && b) (expr_fits i.expr) (items_call f)

pick_calls : {params : List (Member Tree)} {before : List Lexeme} {picked : Picked}
    {after : List Lexeme} → IsPick params before picked after
    → list_all calls_fit (exprs_picked picked) ≡ true
pick_calls (star m) = refl
pick_calls (value m a) = ap (λ b. b && true) (expr_fits a)
pick_calls (items i f) = ap₂ (λ a b. a && b) (expr_fits i.expr) (items_call f)

condition_calls : {params : List (Member Tree)} {before : List Lexeme} {condition : Option Expr}
    {after : List Lexeme} → IsCondition params before condition after
    → list_all calls_fit (exprs_optional condition) ≡ true
condition_calls (no_condition h) = refl
condition_calls (conditioned m a) = ap (λ b. b && true) (expr_fits a)

groups_call : {params : List (Member Tree)} {before : List Lexeme} {groups : List Expr}
    {after : List Lexeme} → AreGroups params before groups after
    → list_all calls_fit groups ≡ true
groups_call (no_groups h) = refl
groups_call (grouped g b a f) =
    ap₂ (λ p q. p && q) (expr_fits a) (as_parts _ (follow_fits f))

-- ---- the rules, one by one

module _ (w : Written) where
  abbrev Shown : List Expr
  Shown = exprs_shown (made w).pick

  abbrev InRows : List Expr
  InRows = exprs_of_rows (made w)

  -- a test of all expressions, from tests of those that are picked, of WHERE and of GROUP BY
  everywhere : (test : Expr → Bool) → list_all test (exprs_picked w.picked) ≡ true
      → list_all test (exprs_optional w.condition) ≡ true → list_all test w.groups ≡ true
      → list_all test (Shown ++ InRows) ≡ true
  everywhere test p c g =
      all_joined test Shown InRows (ap (list_all test) (shown_made w.picked) ∙ p)
      (all_joined test (exprs_optional w.condition) w.groups c g)

  abbrev Aliases : List (List ℕ)
  Aliases = aliases_bound (made w).froms

  same_aliases : Aliases ≡ aliases_of w
  same_aliases = ap (λ names. first_alias w.source ∷ names) (aliases_made w.joins)

  ordered : orders_fit w ≡ true → has_some (map order_made w.orders) ≡ true
      → (has_groups (made w) ≡ false) × BindsDocument (made w).froms
  ordered h some =
      by_orders w.orders some h
    where
      by_orders : (orders : List Ordered) → has_some (map order_made orders) ≡ true
          → (is_empty orders
          || (not w.source.each && is_empty w.source.steps && not (is_grouped w)
          && list_all (λ ordered. bytes_eq ordered.alias (first_alias w.source)) orders)) ≡ true
          → (has_groups (made w) ≡ false) × BindsDocument (made w).froms
      by_orders [] some h = absurd (false≢true some)
      by_orders (o ∷ orders) some h =
          let p = four_parts (not w.source.each) (is_empty w.source.steps) (not (is_grouped w)) _
          h in (
            groups_made w ∙ not_false (is_grouped w) p.2,
            (not_false w.source.each p.0, some_or_empty w.source.steps ∙ ap not p.1),
          )

  no_joins : is_empty w.joins ≡ true → length (map join_made w.joins) ≡ 0
  no_joins h = length-map w.joins join_made ∙ is_none w.joins h
    where
      is_none : (joins : List Joined) → is_empty joins ≡ true → length joins ≡ 0
      is_none [] h = refl
      is_none (joined ∷ joins) h = absurd (false≢true h)

  picked_stands : (picked : Picked) → w.picked ≡ picked → pick_fits w picked ≡ true
      → PickStands (made w) (pick_made picked)
  picked_stands the_star is h =
      let p = and_parts (is_empty w.joins) (is_empty w.groups) h in (
        ap suc (no_joins p.0),
        groups_made w
            ∙ ap₂ (λ a b. not a || list_any has_aggregate (exprs_picked b)) p.1 is,
      )
  picked_stands (the_value x) is h = tt
  picked_stands (the_items its) is h =
      let p = and_parts (nat_le (length its) most_items) _ h in
      (p.1, subst (λ n. n ≤ most_items) (sym (length_named 1 its)) (leb-true _ _ p.0))

  few_sources : nat_le (length w.joins) most_joins ≡ true
      → length (made w).froms ≤ most_joins + 1
  few_sources h = omega (arith, leb-true _ _ h, length-map w.joins join_made)

  built : groups_fit w ≡ true → has_groups (made w) ≡ true
      → list_all (is_built w.groups) Shown ≡ true
  built h is =
      ap (list_all (is_built w.groups)) (shown_made w.picked)
      ∙ of_grouped (is_grouped w) (sym (groups_made w) ∙ is) h
    where
      of_grouped : (g : Bool) {all : Bool} → g ≡ true → (not g || all) ≡ true → all ≡ true
      of_grouped true is h = h
      of_grouped false is h = absurd (false≢true is)

  pub scoped : {params : List (Member Tree)} {lexemes : List Lexeme} → IsWritten params lexemes w
      → obeys_rules w ≡ true → IsScoped (made w)
  scoped writes obeys =
      let front = four_parts (limits_fit w) (window_fits w) (sources_fit w) (aliases_fit w)
      (and_parts _ _ (and_parts _ _ (and_parts _ _ (and_parts _ (orders_fit w) obeys).0).0).0).0
      in
      let back = four_parts _ (aggregates_stand w) (groups_fit w) (orders_fit w) obeys in
      let picks = (and_parts _ (pick_fits w w.picked) back.0).1 in
      let few = three_parts (nat_le (length w.joins) most_joins)
      (nat_le (length w.groups) most_groups) (nat_le (length w.orders) most_orders) front.0 in
      let sources = three_parts (is_some (alias_of w.source)) (are_distinct (aliases_of w))
      (bases_declared (first_alias w.source ∷ []) w.joins) front.2 in
      let declared = three_parts (list_all (are_declared (aliases_of w)) (exprs_picked w.picked))
      (list_all (are_declared (aliases_of w)) (exprs_optional w.condition))
      (list_all (are_declared (aliases_of w)) w.groups) front.3 in
      let alone = three_parts (list_all (λ x. aggregates_fit x true) (exprs_picked w.picked))
      (list_all (λ x. aggregates_fit x false) (exprs_optional w.condition))
      (list_all (λ x. aggregates_fit x false) w.groups) back.1 in
      record {
        distinct = ap are_distinct same_aliases ∙ sources.1;
        sources = joins_made (first_alias w.source ∷ []) w.joins ∙ sources.2;
        bound =
            subst
            (λ names. list_all (are_declared names) (Shown ++ InRows) ≡ true) (sym same_aliases)
            (everywhere (are_declared (aliases_of w)) declared.0 declared.1 declared.2);
        arguments =
            everywhere calls_fit (pick_calls writes.pick) (condition_calls writes.condition)
            (groups_call writes.groups);
        alone = ap (list_all (λ x. aggregates_fit x true)) (shown_made w.picked) ∙ alone.0;
        shown_only =
            not_false (list_any has_aggregate InRows)
            (sym (none_fit InRows)
            ∙ all_joined (λ x. aggregates_fit x false) (exprs_optional w.condition) w.groups
            alone.1 alone.2);
        built = built back.2;
        ordered = ordered back.3;
        pick = picked_stands w.picked refl picks;
        few = (
          few_sources few.0,
          leb-true _ _ few.1,
          subst (λ n. n ≤ most_orders) (sym (length-map w.orders order_made))
              (leb-true _ _ few.2),
        );
      }

pub query_scoped : {text : List ℕ} {params : List (Member Tree)} {query : Query}
    → IsQuery text params query → IsScoped query
query_scoped q = subst IsScoped (sym q.is_made) (scoped q.written q.writes q.obeys)
