use Rattle.ax_area.proofs.EveryImage.{every_image}
use Rattle.ax_area.proofs.laws.some_outcome.Goals as goal

pub returns : goal.returns
returns c = every_image
