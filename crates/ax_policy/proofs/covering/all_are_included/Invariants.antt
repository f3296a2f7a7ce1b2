-- What is left decides the whole.
use Rattle.std.proofs.Common.{◌≡◌, drop}
use Rattle.std.specs.List.{list_all}
use Rattle.ax_policy.specs.Deciding.{is_kept}
use Rattle.ax_policy.proofs.covering.all_are_included.Given as goal

abbrev pub invariant-loop-rule : goal.invariant-loop-rule
invariant-loop-rule l =
    list_all (is_kept l.steps) (drop l.rule-index l.rules) ≡ list_all (is_kept l.steps) l.rules
