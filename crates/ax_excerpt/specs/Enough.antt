-- When an excerpt of a document is enough for a query: all that the query looks at is in it.
use Rattle.std.specs.Prelude.{ℕ, List, [], ◌∷◌, Bool, true, false, ◌&&◌, Option, Some, None, if◌then◌else◌}
use Rattle.std.specs.List.{list_all}
use Rattle.std.specs.Str.{bytes_eq}
use Rattle.ax_mean.specs.declared.expr.Expr.{Expr}
use Rattle.ax_mean.specs.declared.expr.QueryStep.{QueryStep}
use Rattle.ax_mean.specs.declared.query.FromItem.{FromItem}
use Rattle.ax_mean.specs.declared.query.Pick.{Pick}
use Rattle.ax_mean.specs.declared.query.Pick.TheVariants as pick
use Rattle.ax_mean.specs.declared.query.Query.{Query}
use Rattle.ax_excerpt.specs.declared.excerpt.Excerpt.{Excerpt}
use Rattle.ax_excerpt.specs.Excerpts.{keeps, keeps_path}
use Rattle.ax_excerpt.specs.Uses.{Uses, is_within}

-- The alias stands for the document, of which the excerpt keeps what steps lead to.
abbrev pub within : List ℕ → Excerpt → Uses
within alias excerpt name steps = if bytes_eq alias name then keeps excerpt steps else true

abbrev pub sources_within : Uses → List FromItem → Bool
sources_within uses = list_all (λ item. uses item.base item.steps)

abbrev pub condition_within : Uses → Option Expr → Bool
condition_within uses None = true
condition_within uses (Some condition) = is_within uses condition

-- `*` shows the document
abbrev pub pick_within : Bool → Uses → Pick → Bool
pick_within star uses pick.Star = star
pick_within star uses (pick.Value expr) = is_within uses expr
pick_within star uses (pick.Named items) = list_all (λ item. is_within uses item.expr) items

abbrev pub rest_within : Bool → Uses → List FromItem → Query → Bool
rest_within star uses items query =
    sources_within uses items
    && (condition_within uses query.condition
    && (list_all (is_within uses) query.groups && pick_within star uses query.pick))

-- the first source binds its alias to the document itself
abbrev pub is_document : Bool → List QueryStep → Bool
is_document true steps = false
is_document false [] = true
is_document false (step ∷ steps) = false

abbrev pub sources_enough : Excerpt → List FromItem → Query → Bool
sources_enough excerpt [] query = true
sources_enough excerpt (item ∷ items) query =
    if is_document item.each item.steps
    then rest_within (keeps excerpt []) (within item.alias excerpt) items query
    else keeps excerpt item.steps

abbrev pub is_enough : Excerpt → Query → Bool
is_enough excerpt query =
    sources_enough excerpt query.froms query
    && list_all (λ order. keeps_path excerpt order.path) query.orders
