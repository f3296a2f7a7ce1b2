use Rattle.ax_image.proofs.InGrammar.{outside_nowhere}
use Rattle.ax_image.proofs.laws.an_image_that_stands_is_outside_nowhere.Goals as goal

pub returns : goal.returns
returns c = outside_nowhere
