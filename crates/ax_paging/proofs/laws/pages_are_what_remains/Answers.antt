-- By induction on the pages.
use Rattle.ax_rows.proofs.Places.{keys_rise_strictly}
use Rattle.ax_paging.proofs.Joining.{joined_from, rising_so}
use Rattle.ax_paging.proofs.laws.pages_are_what_remains.Goals as goal

pub returns : goal.returns
returns c = λ query entries mark counts rows rise of_query are.
    joined_from query entries (rising_so query.orders _ (keys_rise_strictly query entries rise)) mark of_query counts rows are
