use Rattle.ax_skips.proofs.Silence.{held_where_in_some}
use Rattle.ax_skips.proofs.laws.a_number_with_a_term_is_held.Goals as goal

pub returns : goal.returns
returns c = λ query table unions container set ranges number over has.
    held_where_in_some query table unions container set over ranges number has
