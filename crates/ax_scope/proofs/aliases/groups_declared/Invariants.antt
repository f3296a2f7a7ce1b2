-- What is left decides the whole.
use Rattle.std.proofs.Common.{◌≡◌, drop}
use Rattle.std.specs.List.{list_all}
use Rattle.ax_grammar.specs.Parts.{are_declared}
use Rattle.ax_scope.proofs.aliases.groups_declared.Given as goal

abbrev pub invariant-loop-group : goal.invariant-loop-group
invariant-loop-group l =
    list_all (are_declared l.aliases) (drop l.group-index l.group-items)
    ≡ list_all (are_declared l.aliases) l.group-items
