use Rattle.std.proofs.Common.{◌+◌, ◌*◌, length}
use Rattle.ax_policy.proofs.with_rule.+with_rule.Given as goal

abbrev pub decreases-with_rule : goal.decreases-with_rule
decreases-with_rule l = 3 * length l.steps.now

abbrev pub decreases-with_item : goal.decreases-with_item
decreases-with_item l = 3 * length l.rest.now + 1

abbrev pub decreases-with_name : goal.decreases-with_name
decreases-with_name l = 3 * length l.rest.now + 2

abbrev pub decreases-names_with : goal.decreases-names_with
decreases-names_with l = 3 * length l.rest.now + 1
