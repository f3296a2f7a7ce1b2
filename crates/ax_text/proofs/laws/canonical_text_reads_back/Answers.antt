-- By induction on the tree.
use Rattle.ax_text.proofs.RoundTrip.{text-stands}
use Rattle.ax_text.proofs.laws.canonical_text_reads_back.Goals as goal

pub returns : goal.returns
returns c = text-stands
