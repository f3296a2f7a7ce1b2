use Rattle.ax_paging.proofs.NextMarks.{next_where_follows}
use Rattle.ax_paging.proofs.laws.a_mark_where_a_row_follows.Goals as goal

pub returns : goal.returns
returns c = λ query entries mark count low. next_where_follows query entries mark count low
