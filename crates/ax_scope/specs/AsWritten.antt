-- What the parser fills, seen as what a query writes.
use Rattle.std.specs.Prelude.{map, Option, Some, None}
use Rattle.ax_grammar.specs.Written as grammar
use Rattle.ax_grammar.specs.Written.Picked.{the_star, the_value, the_items}
use Rattle.ax_scope.specs.declared.written.Item.{Item}
use Rattle.ax_scope.specs.declared.written.Joined.{Joined}
use Rattle.ax_scope.specs.declared.written.Ordered.{Ordered}
use Rattle.ax_scope.specs.declared.written.Picked.{Picked}
use Rattle.ax_scope.specs.declared.written.Picked.TheVariants.{Star, Value, Items}
use Rattle.ax_scope.specs.declared.written.Source.{Source}
use Rattle.ax_scope.specs.declared.written.Window.{Window}
use Rattle.ax_scope.specs.declared.written.Written.{Written}

abbrev pub item_of : Item → grammar.Item
item_of item = record { expr = item.expr; name = item.name }

abbrev pub picked_of : Picked → grammar.Picked
picked_of Star = the_star
picked_of (Value x) = the_value x
picked_of (Items items) = the_items (map item_of items)

abbrev pub source_of : Source → grammar.Source
source_of source =
    record {
      container = source.container;
      each = source.each;
      steps = source.steps;
      alias = source.alias;
    }

abbrev pub joined_of : Joined → grammar.Joined
joined_of joined =
    record { alias = joined.alias; base = joined.base; steps = joined.steps }

abbrev pub ordered_of : Ordered → grammar.Ordered
ordered_of ordered =
    record { alias = ordered.alias; path = ordered.path; down = ordered.down }

abbrev pub window_of : Window → grammar.Window
window_of window = record { offset = window.offset; limit = window.limit }

abbrev pub optional_window : Option Window → Option grammar.Window
optional_window None = None
optional_window (Some window) = Some (window_of window)

abbrev pub written_of : Written → grammar.Written
written_of w =
    record {
      distinct = w.distinct;
      top = w.top;
      picked = picked_of w.picked;
      source = source_of w.source;
      joins = map joined_of w.joins;
      condition = w.condition;
      groups = w.groups;
      orders = map ordered_of w.orders;
      window = optional_window w.window;
    }
