-- The query that is made of what is written.
use Rattle.std.specs.Prelude.{ℕ, ◌∷◌, map, true, Option, Some, None}
use Rattle.ax_mean.specs.declared.query.FromItem.{FromItem}
use Rattle.ax_mean.specs.declared.query.Order.{Order}
use Rattle.ax_mean.specs.declared.query.Pick.{Pick}
use Rattle.ax_mean.specs.declared.query.Pick.TheVariants as pick
use Rattle.ax_mean.specs.declared.query.Query.{Query}
use Rattle.ax_mean.specs.declared.query.Step.TheVariants as step
use Rattle.ax_grammar.specs.Names.{named_items}
use Rattle.ax_grammar.specs.Scope.{first_alias}
use Rattle.ax_grammar.specs.Written.{Picked, Source, Joined, Ordered, Window, Written}
use Rattle.ax_grammar.specs.Written.Picked.{the_star, the_value, the_items}

abbrev pub pick_made : Picked → Pick
pick_made the_star = pick.Star
pick_made (the_value x) = pick.Value x
pick_made (the_items items) = pick.Named (named_items items)

abbrev pub source_made : Source → FromItem
source_made source =
    record {
      alias = first_alias source;
      base = source.container;
      steps = source.steps;
      each = source.each;
    }

abbrev pub join_made : Joined → FromItem
join_made joined =
    record { alias = joined.alias; base = joined.base; steps = joined.steps; each = true }

abbrev pub order_made : Ordered → Order
order_made ordered = record { path = map step.Name ordered.path; down = ordered.down }

-- the number after OFFSET, else 0
abbrev pub skip_made : Option Window → ℕ
skip_made None = 0
skip_made (Some window) = window.offset

-- the number after LIMIT or TOP
abbrev pub limit_made : Option ℕ → Option Window → Option ℕ
limit_made top None = top
limit_made top (Some window) = Some window.limit

abbrev pub made : Written → Query
made w =
    record {
      distinct = w.distinct;
      pick = pick_made w.picked;
      froms = source_made w.source ∷ map join_made w.joins;
      condition = w.condition;
      groups = w.groups;
      orders = map order_made w.orders;
      skip = skip_made w.window;
      limit = limit_made w.top w.window;
    }
