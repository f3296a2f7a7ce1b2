use Rattle.ax_image.proofs.OneContainer.{fresh_files}
use Rattle.ax_image.proofs.laws.fresh_image_stands_for_fresh.Goals as goal

pub returns : goal.returns
returns c = fresh_files
