use Rattle.ax_plan.proofs.Apart.{all_apart, either_order}
use Rattle.ax_plan.proofs.laws.what_is_left_can_be_combined_no_more.Goals as goal

pub returns-clause-apart : goal.returns-clause-apart
returns-clause-apart c = all_apart

pub returns-clause-either_order : goal.returns-clause-either_order
returns-clause-either_order c = either_order
