use Rattle.std.proofs.Common.{[], refl}
use Rattle.ax_lines.proofs.FineBodies.{by_name_rising}
use Rattle.ax_lines.proofs.LastCounts.{last_counts}
use Rattle.ax_lines.proofs.laws.the_last_of_a_name_counts.Goals as goal

pub returns-clause-rising : goal.returns-clause-rising
returns-clause-rising c = λ written. by_name_rising [] written refl

pub returns-clause-last : goal.returns-clause-last
returns-clause-last c = last_counts
