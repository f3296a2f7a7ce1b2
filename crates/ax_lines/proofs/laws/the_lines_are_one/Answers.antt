use Rattle.ax_lines.proofs.Splits.{lines_are_one}
use Rattle.ax_lines.proofs.laws.the_lines_are_one.Goals as goal

pub returns : goal.returns
returns c = lines_are_one
