use Rattle.ax_frame.proofs.Parts as parts
use Rattle.ax_frame.proofs.laws.one_end.Goals as goal

pub returns : goal.returns
returns c = parts.one_end
