use Rattle.ax_plan.proofs.Passing.{for_each, in_each}
use Rattle.ax_plan.proofs.laws.unions_have_the_terms_of_their_conditions.Goals as goal

pub returns-clause-for_each : goal.returns-clause-for_each
returns-clause-for_each c = for_each

pub returns-clause-in_each : goal.returns-clause-in_each
returns-clause-in_each c = in_each
