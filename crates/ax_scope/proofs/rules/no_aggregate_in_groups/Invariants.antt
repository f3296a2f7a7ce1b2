-- What is left decides the whole.
use Rattle.std.proofs.Common.{◌≡◌, drop, false}
use Rattle.std.specs.List.{list_all}
use Rattle.ax_grammar.specs.Parts.{aggregates_fit}
use Rattle.ax_scope.proofs.rules.no_aggregate_in_groups.Given as goal

abbrev pub invariant-loop-group : goal.invariant-loop-group
invariant-loop-group l =
    list_all (λ x. aggregates_fit x false) (drop l.group-index l.group-items)
    ≡ list_all (λ x. aggregates_fit x false) l.group-items
