use Rattle.ax_lines.proofs.Splits as splits
use Rattle.ax_lines.proofs.laws.there_are_lines.Goals as goal

pub returns : goal.returns
returns c = splits.there_are_lines
