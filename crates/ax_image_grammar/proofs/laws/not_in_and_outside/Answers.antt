use Rattle.ax_image_grammar.proofs.NotBoth.{not_in_and_outside}
use Rattle.ax_image_grammar.proofs.laws.not_in_and_outside.Goals as goal

pub returns : goal.returns
returns c = not_in_and_outside
