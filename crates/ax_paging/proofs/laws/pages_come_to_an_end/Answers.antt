use Rattle.ax_rows.proofs.Places.{keys_rise_strictly}
use Rattle.ax_paging.proofs.Ending.{pages_end}
use Rattle.ax_paging.proofs.Joining.{rising_so}
use Rattle.ax_paging.proofs.laws.pages_come_to_an_end.Goals as goal

pub returns : goal.returns
returns c = λ query entries mark count rise of_query low.
    pages_end query entries (rising_so query.orders _ (keys_rise_strictly query entries rise)) count low mark of_query
