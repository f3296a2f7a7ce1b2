use Rattle.ax_token.specs.TokenBytes.{token_bytes}
use Rattle.ax_token.proofs.WordLaws.{dense}
use Rattle.ax_token.proofs.laws.no_space.Goals as goal

pub returns : goal.returns
returns c = λ a. dense (token_bytes a)
