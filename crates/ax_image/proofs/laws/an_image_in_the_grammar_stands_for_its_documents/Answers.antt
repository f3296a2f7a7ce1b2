use Rattle.ax_image.proofs.InGrammar.{stands_by_grammar}
use Rattle.ax_image.proofs.laws.an_image_in_the_grammar_stands_for_its_documents.Goals as goal

pub returns : goal.returns
returns c = stands_by_grammar
