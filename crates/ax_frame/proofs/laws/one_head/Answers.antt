use Rattle.ax_frame.proofs.Pieces as pieces
use Rattle.ax_frame.proofs.laws.one_head.Goals as goal

pub returns : goal.returns
returns c = pieces.one_head
