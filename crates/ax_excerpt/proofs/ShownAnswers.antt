-- The answer of a query that shows documents is that of the query that shows nothing of them, over
-- what an excerpt leaves, each row with the document of its number.
use Rattle.std.proofs.Common.{◌≡◌, ℕ, List, [], ◌∷◌, ◌++◌, map, drop, cond, Bool, true, false, ◌||◌, Option, Some, None, refl, sym, ap, ap₂, ◌∙◌, rules}
use Rattle.std.specs.Prelude.{find, ◌==◌}
use Rattle.std.specs.declared.cmp.Ordering.{Ordering}
use Rattle.std.specs.declared.cmp.Ordering.TheVariants.{Less, Greater}
use Rattle.std.specs.Ordering.{nat_cmp, is_lt, ordering_reverse}
use Rattle.std.specs.List.{AllByRecursion, filter_map, cons_option}
use Rattle.std.specs.List.Sorted.{IsStrictlySortedBy}
use Rattle.std.proofs.lemmas.Bool.{ne_eqb}
use Rattle.std.proofs.lemmas.Cmp.{nat_cmp_total}
use Rattle.std.proofs.lemmas.List.{drop-map, take-map}
use Rattle.ax_tree.specs.declared.tree.Tree as tree
use Rattle.ax_tree.specs.declared.tree.Tree.{Tree}
use Rattle.ax_mean.specs.declared.expr.Expr as expr
use Rattle.ax_mean.specs.declared.expr.Expr.{Expr}
use Rattle.ax_mean.specs.declared.query.FromItem.{FromItem}
use Rattle.ax_mean.specs.declared.query.KeyedRow.{KeyedRow}
use Rattle.ax_mean.specs.declared.query.Pick.{Pick}
use Rattle.ax_mean.specs.declared.query.Pick.TheVariants as pick
use Rattle.ax_mean.specs.declared.query.Query.{Query}
use Rattle.ax_mean.specs.declared.value.Value.{Value}
use Rattle.ax_mean.specs.declared.value.Value.TheVariants.{Undefined, Defined}
use Rattle.ax_mean.specs.Aggregates.{has_aggregate, has_some, picks_aggregate, has_groups}
use Rattle.ax_mean.specs.Answer.{inserted, sorted, distinct_where, limited, all_rows, answer}
use Rattle.ax_mean.specs.RowOrder.{key_cmp}
use Rattle.ax_mean.specs.Rows.{Bound, passes, order_values, shown, keyed, keyed_where, keyed_rows, rows_of_tree}
use Rattle.ax_result.specs.Answers.{answer_of}
use Rattle.ax_result.specs.Groups.{group_answer}
use Rattle.ax_excerpt.specs.declared.excerpt.Excerpt.{Excerpt}
use Rattle.ax_excerpt.specs.Excerpts.{excerpt_of, excerpts}
use Rattle.ax_excerpt.specs.Enough.{is_enough}
use Rattle.ax_excerpt.specs.ShownDocuments.{without_pick, showing, PicksAlias, ShowsFrom, ShowsDocument, tree_at, tree_numbered}
use Rattle.ax_excerpt.proofs.ShownRows.{shown_rows}

-- ---- sorting through a map that keeps the order

module _ {X Y : Type 0} (f : X → Y) (cmp : X → X → Ordering) (dmp : Y → Y → Ordering)
    (h : (a b : X) → dmp (f a) (f b) ≡ cmp a b) where
  inserted_map : (x : X) (ys : List X) → inserted dmp (f x) (map f ys) ≡ map f (inserted cmp x ys)
  inserted_map x [] = refl
  inserted_map x (y ∷ ys) =
      ap (λ r. cond (is_lt r) (f y ∷ inserted dmp (f x) (map f ys)) (f x ∷ f y ∷ map f ys)) (h y x)
      ∙ elim (is_lt (cmp y x)) as (λ b. cond b (f y ∷ inserted dmp (f x) (map f ys)) (f x ∷ f y ∷ map f ys)
      ≡ map f (cond b (y ∷ inserted cmp x ys) (x ∷ y ∷ ys)))
      [ true ↦ ap (λ zs. f y ∷ zs) (inserted_map x ys) | false ↦ refl ]

  sorted_map : (xs : List X) → sorted dmp (map f xs) ≡ map f (sorted cmp xs)
  sorted_map [] = refl
  sorted_map (x ∷ xs) = ap (inserted dmp (f x)) (sorted_map xs) ∙ inserted_map x (sorted cmp xs)

limited_map : {X Y : Type 0} (f : X → Y) (limit : Option ℕ) (xs : List X)
    → limited limit (map f xs) ≡ map f (limited limit xs)
limited_map f None xs = refl
limited_map f (Some limit) xs = take-map f limit xs

map_append : {X Y : Type 0} (f : X → Y) (xs ys : List X) → map f (xs ++ ys) ≡ map f xs ++ map f ys
map_append f [] ys = refl
map_append f (x ∷ xs) ys = ap (λ zs. f x ∷ zs) (map_append f xs ys)

-- ---- the tree of a number

abbrev Entries : Type 0
Entries = List (ℕ × Tree)

-- each of some documents is found among others by its number
abbrev AreFound : Entries → Entries → Type 0
AreFound all [] = Unit {0}
AreFound all (p ∷ ps) = (tree_numbered p.0 all ≡ p.1) × AreFound all ps

equal_number : (n : ℕ) → (n == n) ≡ true
equal_number n = search rules

lesser_number : (n m : ℕ) → nat_cmp n m ≡ Less → (n == m) ≡ false
lesser_number n m h =
    ne_eqb n m (λ same.
    let own : nat_cmp n n ≡ Less = ap (nat_cmp n) same ∙ h in
    let turned : nat_cmp n n ≡ Greater = nat_cmp_total.antisymm n n ∙ ap ordering_reverse own in
    cc)

found_behind : (p : ℕ × Tree) (all some : Entries)
    → AllByRecursion (λ n. nat_cmp p.0 n ≡ Less) (map (λ q. q.0) some) → AreFound all some
    → AreFound (p ∷ all) some
found_behind p all [] less found = tt
found_behind p all (q ∷ qs) less found = (
  ap (λ b. tree_at (cond b (Some p) (find (λ (r : ℕ × Tree). r.0 == q.0) all)))
      (lesser_number p.0 q.0 less.0) ∙ found.0,
  found_behind p all qs less.1 found.1,
)

all_found : (all : Entries) → IsStrictlySortedBy nat_cmp (map (λ q. q.0) all) → AreFound all all
unfolding IsStrictlySortedBy
all_found [] rise = tt
all_found (p ∷ ps) rise = (
  ap (λ b. tree_at (cond b (Some p) (find (λ (r : ℕ × Tree). r.0 == p.0) ps))) (equal_number p.0),
  found_behind p ps ps rise.0 (all_found ps rise.1),
)

-- ---- rows with the documents of their numbers

module _ (all : Entries) where
  abbrev with_document : KeyedRow → KeyedRow
  with_document row = showing (tree_numbered row.number all) row

  row_numbered : (query : Query) (number : ℕ) (values : List Value) (t : Tree) (row : Bound)
      (rest : List KeyedRow)
      → tree_numbered number all ≡ t → map (showing t) rest ≡ map with_document rest
      → map (showing t) (cons_option (keyed_where query number values row) rest)
      ≡ map with_document (cons_option (keyed_where query number values row) rest)
  row_numbered query number values t row rest is later =
      by (passes query.condition row.env) (shown query.pick row.env)
    where
      by : (b : Bool) (v : Value)
          → map (showing t) (cons_option (cond b (keyed values number row.place v) None) rest)
          ≡ map with_document (cons_option (cond b (keyed values number row.place v) None) rest)
      by false v = later
      by true Undefined = later
      by true (Defined it) =
          ap₂ (λ (r : KeyedRow) rs. r ∷ rs)
          (ap (λ s. showing s (record { values = values; number = number; place = row.place; shown = it })) (sym is))
          later

  rows_numbered : (query : Query) (number : ℕ) (values : List Value) (t : Tree)
      → tree_numbered number all ≡ t → (rows : List Bound)
      → map (showing t) (filter_map (keyed_where query number values) rows)
      ≡ map with_document (filter_map (keyed_where query number values) rows)
  rows_numbered query number values t is [] = refl
  rows_numbered query number values t is (row ∷ rows) =
      row_numbered query number values t row (filter_map (keyed_where query number values) rows) is
      (rows_numbered query number values t is rows)

  module _ (e : Excerpt) (query : Query) (is : ShowsDocument query)
      (enough : is_enough e (without_pick query) ≡ true) where
    abbrev cut : Tree → Tree
    cut t = excerpt_of e t

    all_shown : (some : Entries) → AreFound all some
        → all_rows query some ≡ map with_document (all_rows (without_pick query) (excerpts e some))
    all_shown [] found = refl
    all_shown (p ∷ ps) found =
        ap₂ (λ (a : List KeyedRow) b. a ++ b)
        (shown_rows e query p.0 p.1 is enough
        ∙ rows_numbered (without_pick query) p.0 (order_values query (cut p.1)) p.1 found.0
        (rows_of_tree query.froms (cut p.1)))
        (all_shown ps found.1)
        ∙ sym (map_append with_document (keyed_rows (without_pick query) p.0 (cut p.1))
        (all_rows (without_pick query) (excerpts e ps)))

-- ---- without groups and DISTINCT

no_alias_aggregate : (alias : List ℕ) → has_aggregate (expr.Alias alias) ≡ false
no_alias_aggregate alias = search (rules, expr.the_lemmas)

no_literal_aggregate : (value : Value) → has_aggregate (expr.Literal value) ≡ false
no_literal_aggregate value = search (rules, expr.the_lemmas)

alias_picked : (alias : List ℕ) (p : Pick) → PicksAlias alias p → picks_aggregate p ≡ false
alias_picked alias pick.Star is = refl
alias_picked alias (pick.Value x) is = ap has_aggregate is ∙ no_alias_aggregate alias
alias_picked alias (pick.Named items) is = absurd is

document_picked : (p : Pick) (froms : List FromItem) → ShowsFrom p froms → picks_aggregate p ≡ false
document_picked p [] is = absurd is
document_picked p (item ∷ []) is = alias_picked item.alias p is.1
document_picked p (item ∷ next ∷ items) is = absurd is

groups_none : (query : Query) → query.groups ≡ [] → picks_aggregate query.pick ≡ false
    → has_groups query ≡ false
groups_none query none plain = ap₂ (λ a b. has_some a || b) none plain

plain_answer : (query : Query) (entries : Entries) → query.distinct ≡ false → has_groups query ≡ false
    → answer_of query entries
    ≡ limited query.limit (drop query.skip (sorted (key_cmp query.orders) (all_rows query entries)))
plain_answer query entries every alone =
    ap (λ b. cond b (group_answer query entries) (answer query entries)) alone
    ∙ ap (λ b. limited query.limit (drop query.skip (distinct_where query.distinct
    (cond b (all_rows query entries) (sorted (key_cmp query.orders) (all_rows query entries)))))) alone
    ∙ ap (λ d. limited query.limit (drop query.skip (distinct_where d
    (sorted (key_cmp query.orders) (all_rows query entries))))) every

-- ---- the answer

module _ (e : Excerpt) (query : Query) (entries : Entries) where
  pub shown_answer : ShowsDocument query → is_enough e (without_pick query) ≡ true
      → IsStrictlySortedBy nat_cmp (map (λ p. p.0) entries)
      → answer_of query entries
      ≡ map (λ row. showing (tree_numbered row.number entries) row)
      (answer_of (without_pick query) (excerpts e entries))
  shown_answer is enough rise =
      plain_answer query entries is.0 (groups_none query is.1 (document_picked query.pick query.froms is.2))
      ∙ ap (λ rows. limited query.limit (drop query.skip (sorted (key_cmp query.orders) rows)))
      (all_shown entries e query is enough entries (all_found entries rise))
      ∙ ap (λ rows. limited query.limit (drop query.skip rows))
      (sorted_map (with_document entries) (key_cmp query.orders) (key_cmp query.orders) (λ a b. refl) keys)
      ∙ ap (limited query.limit) (drop-map (with_document entries) query.skip (sorted (key_cmp query.orders) keys))
      ∙ limited_map (with_document entries) query.limit (drop query.skip (sorted (key_cmp query.orders) keys))
      ∙ ap (map (with_document entries))
      (sym (plain_answer (without_pick query) (excerpts e entries) is.0
      (groups_none (without_pick query) is.1 (no_literal_aggregate (Defined tree.Null)))))
    where
      keys : List KeyedRow
      keys = all_rows (without_pick query) (excerpts e entries)
