use Rattle.ax_token.proofs.WordLaws.{one_of_word}
use Rattle.ax_token.proofs.laws.one_token.Goals as goal

pub returns : goal.returns
returns c = one_of_word
