-- What was asked for so far, with what the items that are left ask for, is all.
use Rattle.std.proofs.Common.{◌≡◌, ◌++◌, drop}
use Rattle.ax_group.specs.Walks.{asks_of, items_asked}
use Rattle.ax_group.proofs.asked.collect_items.Given as goal

abbrev pub invariant-loop-item : goal.invariant-loop-item
invariant-loop-item l =
    asks_of l.asked.items ++ items_asked (drop l.item-index l.item-items)
    ≡ asks_of l.fn.asked.items ++ items_asked l.item-items
