use Rattle.ax_term.proofs.ByteOrder.{equal_bytes}
use Rattle.ax_term.proofs.laws.equal_bytes_are_equal_terms.Goals as goal

pub returns : goal.returns
returns c = equal_bytes
