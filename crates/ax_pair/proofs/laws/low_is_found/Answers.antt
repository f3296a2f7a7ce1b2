use Rattle.ax_pair.proofs.Lows.{low_where}
use Rattle.ax_pair.proofs.laws.low_is_found.Goals as goal

pub returns : goal.returns
returns c = low_where
