-- All of a document is enough for each query; where some part of it is enough too, not all of it is needed.
use Rattle.std.proofs.Common.{◌≡◌, List, [], ◌∷◌, ℕ, Bool, true, false, Option, Some, None, refl, sym, ap, subst, ◌∙◌}
use Rattle.std.specs.Prelude.{if◌then◌else◌}
use Rattle.std.specs.List.{list_all}
use Rattle.std.specs.Str.{bytes_eq}
use Rattle.std.proofs.lemmas.Bool.{false≢true}
use Rattle.ax_excerpt.proofs.KeptSteps.{keeps_whole}
use Rattle.ax_excerpt.proofs.RisingParts.{both_true}
use Rattle.ax_excerpt.proofs.UsesByParts.{is_path_level, uses_by_parts}
use Rattle.ax_excerpt.specs.Enough.{condition_within, is_document, is_enough, pick_within, rest_within, sources_enough, within}
use Rattle.ax_excerpt.specs.Excerpts.{keeps, names_before}
use Rattle.ax_excerpt.specs.Needs.{NeedsAll}
use Rattle.ax_excerpt.specs.Plain.{are_plain}
use Rattle.ax_excerpt.specs.Uses.{Test, Uses, is_within, uses_in, uses_level}
use Rattle.ax_excerpt.specs.declared.excerpt.Excerpt as excerpt
use Rattle.ax_excerpt.specs.declared.excerpt.Excerpt.{Excerpt}
use Rattle.ax_grammar.proofs.AggregatesFit.{Each, ind_by_parts}
use Rattle.ax_mean.specs.declared.expr.Expr.{Expr, out-Expr}
use Rattle.ax_mean.specs.declared.expr.Expr.TheFolds.{fold_out-Expr, map-Expr}
use Rattle.ax_mean.specs.declared.expr.Expr.TheOpen.{Expr-F}
use Rattle.ax_mean.specs.declared.expr.QueryStep.{QueryStep}
use Rattle.ax_mean.specs.declared.query.FromItem.{FromItem}
use Rattle.ax_mean.specs.declared.query.Pick.{Pick}
use Rattle.ax_mean.specs.declared.query.Pick.TheVariants as pick
use Rattle.ax_mean.specs.declared.query.Query.{Query}
use Rattle.ax_mean.specs.Parts.{level_parts, parts_of}

every : {A : Type 0} (test : A → Bool) → ((x : A) → test x ≡ true) → (xs : List A) → list_all test xs ≡ true
every test each [] = refl
every test each (x ∷ xs) = both_true (test x) (list_all test xs) (each x) (every test each xs)

-- ---- where every use of an alias is allowed, so are all in an expression

module _ (uses : Uses) (allowed : (name : List ℕ) (steps : List QueryStep) → uses name steps ≡ true) where
  abbrev AllUsed : Expr → Type 0
  AllUsed e = (steps : List QueryStep) → uses_in uses e steps ≡ true

  each_alone : (es : List Expr) → Each AllUsed es → list_all (is_within uses) es ≡ true
  each_alone [] each = refl
  each_alone (e ∷ es) each =
      both_true (is_within uses e) (list_all (is_within uses) es) (each.0 []) (each_alone es each.1)

  at_level : (e : Expr) (level : Expr-F Expr) (steps : List QueryStep) → out-Expr e ≡ level
      → uses_in uses e steps ≡ uses_level uses (map-Expr Expr Test (uses_in uses) level) steps
  at_level e level steps is =
      ap (λ (test : Test). test steps) (fold_out-Expr Test (uses_level uses) e)
      ∙ ap (λ y. uses_level uses (map-Expr Expr Test (uses_in uses) y) steps) is

  by_form : (e : Expr) (level : Expr-F Expr) → out-Expr e ≡ level → Each AllUsed (level_parts level) → AllUsed e
  by_form e (Expr-F.Alias name) is each steps = at_level e (Expr-F.Alias name) steps is ∙ allowed name steps
  by_form e (Expr-F.Steps base more) is each steps = at_level e (Expr-F.Steps base more) steps is ∙ each.0 more
  by_form e level is each steps =
      uses_by_parts uses e steps (ap is_path_level is)
      ∙ each_alone (parts_of e) (subst (λ y. Each AllUsed (level_parts y)) (sym is) each)

  all_used : (e : Expr) → is_within uses e ≡ true
  all_used e = ind_by_parts AllUsed (λ x each. by_form x (out-Expr x) refl each) e []

-- ---- and in a query

module _ (alias : List ℕ) where
  abbrev any_use : Uses
  any_use = within alias excerpt.Whole

  any_allowed : (name : List ℕ) (steps : List QueryStep) → any_use name steps ≡ true
  any_allowed name steps = by (bytes_eq alias name)
    where
      by : (same : Bool) → (if same then keeps excerpt.Whole steps else true) ≡ true
      by true = keeps_whole steps
      by false = refl

  used : (e : Expr) → is_within any_use e ≡ true
  used = all_used any_use any_allowed

  condition_used : (condition : Option Expr) → condition_within any_use condition ≡ true
  condition_used None = refl
  condition_used (Some condition) = used condition

  pick_used : (picked : Pick) → pick_within (keeps excerpt.Whole []) any_use picked ≡ true
  pick_used pick.Star = keeps_whole []
  pick_used (pick.Value e) = used e
  pick_used (pick.Named items) = every _ (λ item. used item.expr) items

  rest_used : (items : List FromItem) (query : Query)
      → rest_within (keeps excerpt.Whole []) any_use items query ≡ true
  rest_used items query =
      both_true _ _ (every _ (λ item. any_allowed item.base item.steps) items)
      (both_true _ _ (condition_used query.condition)
      (both_true _ _ (every (is_within any_use) used query.groups) (pick_used query.pick)))

sources_used : (items : List FromItem) (query : Query) → sources_enough excerpt.Whole items query ≡ true
sources_used [] query = refl
sources_used (item ∷ items) query = by (is_document item.each item.steps)
  where
    by : (first : Bool) → (if first
        then rest_within (keeps excerpt.Whole []) (within item.alias excerpt.Whole) items query
        else keeps excerpt.Whole item.steps) ≡ true
    by true = rest_used item.alias items query
    by false = keeps_whole item.steps

pub whole_is_enough : (query : Query) → is_enough excerpt.Whole query ≡ true
whole_is_enough query =
    both_true (sources_enough excerpt.Whole query.froms query) _ (sources_used query.froms query)
    (every _ (λ order. keeps_whole (names_before order.path)) query.orders)

-- ---- a part that is enough

pub part_is_enough : (found : Excerpt) (query : Query)
    → (is_enough found query ≡ true) × (are_plain found ≡ true) → keeps found [] ≡ false → NeedsAll query → ⊥
part_is_enough found query enough less needs =
    let kept : keeps found [] ≡ true =
    ap (λ (e : Excerpt). keeps e []) (needs found enough.1 enough.0) ∙ keeps_whole [] in
    false≢true (sym less ∙ kept)
