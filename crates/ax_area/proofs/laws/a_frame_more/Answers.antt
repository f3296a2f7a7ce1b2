use Rattle.ax_area.proofs.OneMore.{one_frame_more}
use Rattle.ax_area.proofs.laws.a_frame_more.Goals as goal

pub returns : goal.returns
returns c = one_frame_more
