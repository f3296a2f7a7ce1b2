-- What the tree says, and else the rules that are left, is what the rules say.
use Rattle.std.proofs.Common.{◌≡◌, drop, List, Bool, true, Some}
use Rattle.ax_mean.specs.declared.query.Step.{Step}
use Rattle.ax_policy.specs.Paths.{rule_text, either}
use Rattle.ax_policy.specs.Rules.{under}
use Rattle.ax_policy.specs.RuleTrees.{says}
use Rattle.ax_policy.specs.Written.{are_written}
use Rattle.ax_policy.proofs.rules.tree_of.Given as goal

abbrev pub invariant-loop-rule : goal.invariant-loop-rule
invariant-loop-rule l =
    (are_written (drop l.rule-index l.rules) ≡ true)
    × ((steps : List Step) (all : Bool)
    → either (says (Some l.tree) steps all) (under (rule_text steps all) (drop l.rule-index l.rules))
    ≡ under (rule_text steps all) l.rules)
