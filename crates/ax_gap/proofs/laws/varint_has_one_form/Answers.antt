use Rattle.ax_gap.proofs.VarintLaws.{one_form}
use Rattle.ax_gap.proofs.laws.varint_has_one_form.Goals as goal

pub returns : goal.returns
returns c = one_form
