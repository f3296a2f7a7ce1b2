use Rattle.ax_image_grammar.proofs.SampleReads.{sample_in_grammar}
use Rattle.ax_image_grammar.proofs.laws.the_example.Goals as goal

pub returns : goal.returns
returns c = sample_in_grammar
