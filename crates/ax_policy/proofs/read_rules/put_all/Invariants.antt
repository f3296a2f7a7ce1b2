-- The rules so far, with the texts that are left put among them, are all.
use Rattle.std.proofs.Common.{◌≡◌}
use Rattle.std.specs.List.{fold}
use Rattle.std.specs.Vec.Iter.{into_iter_items}
use Rattle.ax_policy.specs.Rules.{with_rule, flagged}
use Rattle.ax_policy.proofs.RuleMaps.{rules_in}
use Rattle.ax_policy.proofs.read_rules.put_all.Given as goal

abbrev pub invariant-loop-text : goal.invariant-loop-text
invariant-loop-text l = record {
  next : (goal.iterator-loop-text).can_next l.text-iterator;
  finite : (goal.iterator-loop-text).is_finite l.text-iterator;
  made : fold with_rule (rules_in l.rules.entries)
      (flagged l.included (into_iter_items l.text-iterator))
      ≡ fold with_rule (rules_in l.initial.rules.entries) (flagged l.included l.fn.texts);
}
