-- What is left decides the whole.
use Rattle.std.proofs.Common.{◌≡◌, drop, map}
use Rattle.std.specs.List.{list_all}
use Rattle.ax_grammar.specs.Parts.{is_built}
use Rattle.ax_scope.specs.AsWritten.{item_of}
use Rattle.ax_scope.proofs.picks.items_built.Given as goal

abbrev pub invariant-loop-item : goal.invariant-loop-item
invariant-loop-item l =
    list_all (is_built l.groups)
    (map (λ item. item.expr) (map item_of (drop l.item-index l.item-items)))
    ≡ list_all (is_built l.groups) (map (λ item. item.expr) (map item_of l.item-items))
