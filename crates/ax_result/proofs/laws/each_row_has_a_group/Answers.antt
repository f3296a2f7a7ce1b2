use Rattle.ax_result.proofs.GroupRows.{rows_have_their_groups}
use Rattle.ax_result.proofs.laws.each_row_has_a_group.Goals as goal

pub returns : goal.returns
returns c = rows_have_their_groups
