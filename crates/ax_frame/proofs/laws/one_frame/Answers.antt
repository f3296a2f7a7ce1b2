use Rattle.ax_frame.proofs.Frames.{same_frame}
use Rattle.ax_frame.proofs.laws.one_frame.Goals as goal

pub returns : goal.returns
returns c = same_frame
