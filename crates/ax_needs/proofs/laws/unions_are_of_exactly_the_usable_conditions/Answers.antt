use Rattle.ax_needs.proofs.Unions.{of_usable, union_there}
use Rattle.ax_needs.proofs.laws.unions_are_of_exactly_the_usable_conditions.Goals as goal

pub returns : goal.returns
returns c = λ container atoms ranges. (of_usable container atoms ranges, union_there container atoms ranges)
