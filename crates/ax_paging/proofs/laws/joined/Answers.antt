-- From the beginning on the answer is left.
use Rattle.ax_rows.proofs.Places.{keys_rise_strictly}
use Rattle.ax_paging.specs.Marks.{Beginning}
use Rattle.ax_paging.proofs.Joining.{joined_from, rising_so}
use Rattle.ax_paging.proofs.laws.joined.Goals as goal

pub returns : goal.returns
returns c = λ query entries counts rows rise are.
    joined_from query entries (rising_so query.orders _ (keys_rise_strictly query entries rise)) Beginning tt counts rows are
