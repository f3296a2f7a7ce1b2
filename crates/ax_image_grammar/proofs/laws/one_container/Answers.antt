use Rattle.ax_image_grammar.proofs.OneContainer.{one_container}
use Rattle.ax_image_grammar.proofs.laws.one_container.Goals as goal

pub returns : goal.returns
returns c = one_container
