-- The names so far, before those of the items that are left, are all names.
use Rattle.std.proofs.Common.{◌≡◌, ◌≤◌, ◌+◌, ◌++◌, drop, map}
use Rattle.ax_grammar.specs.Names.{named_from, item_names}
use Rattle.ax_scope.specs.AsWritten.{item_of}
use Rattle.ax_scope.proofs.names.item_names.Given as goal

abbrev pub invariant-loop-item : goal.invariant-loop-item
invariant-loop-item l = record {
  small : l.number ≤ l.item-index + 1;
  made : l.names ++ map (λ item. item.name)
      (named_from l.number (map item_of (drop l.item-index l.item-items)))
      ≡ item_names (map item_of l.items);
}
