use Rattle.ax_paging.proofs.NextMarks.{next_of_query}
use Rattle.ax_paging.proofs.laws.the_next_mark_is_of_the_query.Goals as goal

pub returns : goal.returns
returns c = λ query entries mark next count is. next_of_query query entries mark next count is
