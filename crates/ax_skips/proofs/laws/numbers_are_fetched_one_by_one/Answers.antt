use Rattle.ax_skips.proofs.Fetching.{fetched_more, fetched_none, fetched_one}
use Rattle.ax_skips.proofs.laws.numbers_are_fetched_one_by_one.Goals as goal

pub returns-clause-more : goal.returns-clause-more
returns-clause-more c = fetched_more

pub returns-clause-one : goal.returns-clause-one
returns-clause-one c = fetched_one

pub returns-clause-none : goal.returns-clause-none
returns-clause-none c = fetched_none
