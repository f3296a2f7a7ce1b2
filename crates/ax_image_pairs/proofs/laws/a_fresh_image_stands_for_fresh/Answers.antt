use Rattle.ax_image_pairs.proofs.Standing.{fresh_with_index}
use Rattle.ax_image_pairs.proofs.laws.a_fresh_image_stands_for_fresh.Goals as goal

pub returns : goal.returns
returns c = fresh_with_index
