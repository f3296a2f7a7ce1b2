use Rattle.ax_term.proofs.AllBytes.{bytes_of_term}
use Rattle.ax_term.proofs.laws.terms_are_bytes.Goals as goal

pub returns : goal.returns
returns c = bytes_of_term
