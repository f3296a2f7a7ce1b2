-- The rows of a query that shows documents are those of the query that shows nothing of them, over
-- what an excerpt leaves, each with its document.
use Rattle.std.proofs.Common.{◌≡◌, ℕ, List, [], ◌∷◌, map, cond, Bool, true, false, None, refl, sym, ap, ◌∙◌, rules}
use Rattle.std.specs.List.{filter_map, flat_map, cons_option}
use Rattle.std.proofs.lemmas.Bool.{false≢true}
use Rattle.std.proofs.lemmas.Slice.Eq.{bytes_eq-Decides}
use Rattle.ax_tree.specs.declared.tree.Tree as tree
use Rattle.ax_tree.specs.declared.tree.Tree.{Tree}
use Rattle.ax_mean.specs.declared.expr.Expr as expr
use Rattle.ax_mean.specs.declared.expr.Expr.{Expr}
use Rattle.ax_mean.specs.declared.expr.QueryStep.{QueryStep}
use Rattle.ax_mean.specs.declared.query.FromItem.{FromItem}
use Rattle.ax_mean.specs.declared.query.Pick.{Pick}
use Rattle.ax_mean.specs.declared.query.Pick.TheVariants as pick
use Rattle.ax_mean.specs.declared.query.Query.{Query}
use Rattle.ax_mean.specs.declared.value.Value.{Value}
use Rattle.ax_mean.specs.declared.value.Value.TheVariants.{Undefined, Defined}
use Rattle.ax_mean.specs.Meaning.{Env, bound, meaning}
use Rattle.ax_mean.specs.Rows.{Bound, choices, with_choice, rows_from, nothing_bound, rows_of_tree, passes, order_values, shown, keyed, keyed_where, keyed_rows}
use Rattle.ax_mean.specs.Steps.{steps_from}
use Rattle.ax_excerpt.specs.declared.excerpt.Excerpt.{Excerpt}
use Rattle.ax_excerpt.specs.Excerpts.{excerpt_of}
use Rattle.ax_excerpt.specs.Enough.{is_document, is_enough}
use Rattle.ax_excerpt.specs.ShownDocuments.{without_pick, showing, PicksAlias, ShowsFrom, ShowsDocument}
use Rattle.ax_excerpt.proofs.SameRows.{same_rows}

abbrev whole_row : List ℕ → Tree → Bound
whole_row alias t = record { env = (alias, Defined t) ∷ []; place = [] }

one_row : (item : FromItem) (t : Tree) → is_document item.each item.steps ≡ true
    → rows_of_tree (item ∷ []) t ≡ whole_row item.alias t ∷ []
one_row item t is = by item.each item.steps is
  where
    by : (each : Bool) (steps : List QueryStep) → is_document each steps ≡ true
        → flat_map (λ c. rows_from [] (with_choice item.alias nothing_bound c))
        (choices each (steps_from (Defined t) steps)) ≡ whole_row item.alias t ∷ []
    by true steps is = absurd (false≢true is)
    by false (s ∷ steps) is = absurd (false≢true is)
    by false [] is = refl

means_alias : (env : Env) (name : List ℕ) → meaning env (expr.Alias name) ≡ bound env name
means_alias env name = search (rules, expr.the_lemmas)

means_null : (env : Env) → meaning env (expr.Literal (Defined tree.Null)) ≡ Defined tree.Null
means_null env = search (rules, expr.the_lemmas)

shows : (alias : List ℕ) (t : Tree) (p : Pick) → PicksAlias alias p
    → shown p ((alias, Defined t) ∷ []) ≡ Defined t
shows alias t pick.Star is = refl
shows alias t (pick.Value x) is =
    ap (meaning ((alias, Defined t) ∷ [])) is ∙ means_alias ((alias, Defined t) ∷ []) alias
    ∙ ap (λ b. cond b (Defined t) Undefined) ((bytes_eq-Decides alias alias).1 refl)
shows alias t (pick.Named items) is = absurd is

row_same : (query : Query) (number : ℕ) (values : List Value) (alias : List ℕ) (t : Tree)
    → PicksAlias alias query.pick
    → filter_map (keyed_where query number values) (whole_row alias t ∷ [])
    ≡ map (showing t) (filter_map (keyed_where (without_pick query) number values) (whole_row alias t ∷ []))
row_same query number values alias t is =
    ap (λ v. cons_option (cond (passes query.condition env) (keyed values number [] v) None) []) (shows alias t query.pick is)
    ∙ by (passes query.condition env)
    ∙ ap (λ v. map (showing t) (cons_option (cond (passes query.condition env) (keyed values number [] v) None) []))
    (sym (means_null env))
  where
    env : Env
    env = (alias, Defined t) ∷ []

    by : (b : Bool)
        → cons_option (cond b (keyed values number [] (Defined t)) None) []
        ≡ map (showing t) (cons_option (cond b (keyed values number [] (Defined tree.Null)) None) [])
    by true = refl
    by false = refl

module _ (e : Excerpt) (query : Query) (number : ℕ) (t : Tree) where
  by_source : (froms : List FromItem) → ShowsFrom query.pick froms
      → filter_map (keyed_where query number (order_values query t)) (rows_of_tree froms t)
      ≡ map (showing t) (filter_map (keyed_where (without_pick query) number (order_values query t)) (rows_of_tree froms t))
  by_source [] is = absurd is
  by_source (item ∷ next ∷ items) is = absurd is
  by_source (item ∷ []) is =
      ap (filter_map (keyed_where query number (order_values query t))) (one_row item t is.0)
      ∙ row_same query number (order_values query t) item.alias t is.1
      ∙ ap (λ rows. map (showing t) (filter_map (keyed_where (without_pick query) number (order_values query t)) rows))
      (sym (one_row item t is.0))

  pub shown_rows : ShowsDocument query → is_enough e (without_pick query) ≡ true
      → keyed_rows query number t
      ≡ map (showing t) (keyed_rows (without_pick query) number (excerpt_of e t))
  shown_rows is enough =
      by_source query.froms is.2 ∙ ap (map (showing t)) (sym (same_rows e (without_pick query) number t enough))
