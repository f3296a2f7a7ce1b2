-- What is left decides the whole.
use Rattle.std.proofs.Common.{◌≡◌, drop}
use Rattle.std.specs.List.{list_any}
use Rattle.ax_policy.proofs.RuleMaps.{is_rule}
use Rattle.ax_policy.proofs.read_rules.has_any.Given as goal

abbrev pub invariant-loop-text : goal.invariant-loop-text
invariant-loop-text l =
    list_any (is_rule l.rules.entries) (drop l.text-index l.texts)
    ≡ list_any (is_rule l.rules.entries) l.texts
