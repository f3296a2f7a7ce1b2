-- What is left decides the whole.
use Rattle.std.proofs.Common.{◌≡◌, drop, map}
use Rattle.std.specs.List.{list_all}
use Rattle.ax_grammar.specs.Parts.{are_declared}
use Rattle.ax_scope.specs.AsWritten.{item_of}
use Rattle.ax_scope.proofs.picks.items_declared.Given as goal

abbrev pub invariant-loop-item : goal.invariant-loop-item
invariant-loop-item l =
    list_all (are_declared l.aliases)
    (map (λ item. item.expr) (map item_of (drop l.item-index l.item-items)))
    ≡ list_all (are_declared l.aliases) (map (λ item. item.expr) (map item_of l.item-items))
