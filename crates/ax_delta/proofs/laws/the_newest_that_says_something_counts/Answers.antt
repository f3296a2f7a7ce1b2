use Rattle.ax_delta.proofs.OneList.{all_rise, newest_counts}
use Rattle.ax_delta.proofs.laws.the_newest_that_says_something_counts.Goals as goal

pub returns-clause-rises : goal.returns-clause-rises
returns-clause-rises c = all_rise

pub returns-clause-holds : goal.returns-clause-holds
returns-clause-holds c = newest_counts
