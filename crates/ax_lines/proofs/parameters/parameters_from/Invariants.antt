-- The parameters so far, with what is written after them, are the whole map.
use Rattle.std.proofs.Common.{◌≡◌, option_map}
use Rattle.std.specs.Vec.Iter.{into_iter_items}
use Rattle.ax_lines.specs.Bodies.{parameters, by_name}
use Rattle.ax_lines.proofs.Written.{and_then_written}
use Rattle.ax_lines.proofs.parameters.parameters_from.Given as goal

abbrev pub invariant-loop-item : goal.invariant-loop-item
invariant-loop-item l = record {
  next : (goal.iterator-loop-item).can_next l.item-iterator;
  finite : (goal.iterator-loop-item).is_finite l.item-iterator;
  made : and_then_written l.values.entries (parameters (into_iter_items l.item-iterator))
      ≡ option_map by_name (parameters l.fn.items);
}
