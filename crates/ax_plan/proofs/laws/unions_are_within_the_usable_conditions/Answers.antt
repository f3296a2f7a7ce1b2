use Rattle.ax_atoms.specs.Conjuncts.{atoms}
use Rattle.ax_plan.proofs.Passing.{has_union, of_usable}
use Rattle.ax_plan.proofs.laws.unions_are_within_the_usable_conditions.Goals as goal

pub returns-clause-of_usable : goal.returns-clause-of_usable
returns-clause-of_usable c = λ query table unions are. of_usable table (atoms query) unions are

pub returns-clause-each : goal.returns-clause-each
returns-clause-each c = λ query table unions are. has_union table (atoms query) unions are
