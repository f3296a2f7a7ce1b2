use Rattle.ax_terms.proofs.AnyOrder.{any_members}
use Rattle.ax_terms.proofs.laws.members_in_any_order.Goals as goal

pub returns : goal.returns
returns c = any_members
