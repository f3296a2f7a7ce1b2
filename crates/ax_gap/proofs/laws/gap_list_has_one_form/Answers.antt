use Rattle.ax_gap.proofs.CursorLaws.{one_list_form}
use Rattle.ax_gap.proofs.laws.gap_list_has_one_form.Goals as goal

pub returns : goal.returns
returns c = one_list_form
