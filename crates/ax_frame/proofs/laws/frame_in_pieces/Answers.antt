use Rattle.ax_frame.proofs.Pieces as pieces
use Rattle.ax_frame.proofs.laws.frame_in_pieces.Goals as goal

pub returns-clause-gives : goal.returns-clause-gives
returns-clause-gives c = pieces.frame_in_pieces

pub returns-clause-only : goal.returns-clause-only
returns-clause-only c = pieces.frame_from_pieces
