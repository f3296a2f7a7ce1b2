use Rattle.ax_frame.proofs.Parts as parts
use Rattle.ax_frame.proofs.laws.one_part.Goals as goal

pub returns : goal.returns
returns c = parts.one_part
