-- What is left decides the whole.
use Rattle.std.proofs.Common.{◌≡◌, drop, map}
use Rattle.std.specs.List.{list_all}
use Rattle.std.specs.Str.{bytes_eq}
use Rattle.ax_scope.specs.AsWritten.{ordered_of}
use Rattle.ax_scope.proofs.rules.begin_with.Given as goal

abbrev pub invariant-loop-ordered : goal.invariant-loop-ordered
invariant-loop-ordered l =
    list_all (λ ordered. bytes_eq ordered.alias l.alias)
    (map ordered_of (drop l.ordered-index l.ordered-items))
    ≡ list_all (λ ordered. bytes_eq ordered.alias l.alias) (map ordered_of l.ordered-items)
