use Rattle.ax_gap.proofs.Members.{same_members}
use Rattle.ax_gap.proofs.laws.members_make_the_list.Goals as goal

pub returns : goal.returns
returns c = same_members
