-- What is left decides the whole.
use Rattle.std.proofs.Common.{◌≡◌, drop, map, true}
use Rattle.std.specs.List.{list_all}
use Rattle.ax_grammar.specs.Parts.{aggregates_fit}
use Rattle.ax_scope.specs.AsWritten.{item_of}
use Rattle.ax_scope.proofs.picks.aggregates_fit_in_items.Given as goal

abbrev pub invariant-loop-item : goal.invariant-loop-item
invariant-loop-item l =
    list_all (λ x. aggregates_fit x true)
    (map (λ item. item.expr) (map item_of (drop l.item-index l.item-items)))
    ≡ list_all (λ x. aggregates_fit x true) (map (λ item. item.expr) (map item_of l.item-items))
