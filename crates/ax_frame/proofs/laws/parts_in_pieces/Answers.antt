use Rattle.ax_frame.proofs.Pieces.{parts_and_pieces}
use Rattle.ax_frame.proofs.laws.parts_in_pieces.Goals as goal

pub returns : goal.returns
returns c = parts_and_pieces
