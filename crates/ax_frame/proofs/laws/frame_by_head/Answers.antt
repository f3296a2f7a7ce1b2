use Rattle.ax_frame.proofs.Pieces as pieces
use Rattle.ax_frame.proofs.laws.frame_by_head.Goals as goal

pub returns : goal.returns
returns c = pieces.frame_by_head
