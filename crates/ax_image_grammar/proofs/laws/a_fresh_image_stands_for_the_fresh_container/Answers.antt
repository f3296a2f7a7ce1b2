use Rattle.ax_image_grammar.proofs.Fresh.{fresh_stands}
use Rattle.ax_image_grammar.proofs.laws.a_fresh_image_stands_for_the_fresh_container.Goals as goal

pub returns : goal.returns
returns c = fresh_stands
