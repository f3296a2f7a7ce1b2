use Rattle.ax_image_grammar.proofs.Fresh.{fresh_is}
use Rattle.ax_image_grammar.proofs.laws.a_fresh_image_is_in_the_grammar.Goals as goal

pub returns : goal.returns
returns c = fresh_is
