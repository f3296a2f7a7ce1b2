use Rattle.ax_image_pairs.proofs.Standing.{one_with_index}
use Rattle.ax_image_pairs.proofs.laws.one_container.Goals as goal

pub returns : goal.returns
returns c = one_with_index
