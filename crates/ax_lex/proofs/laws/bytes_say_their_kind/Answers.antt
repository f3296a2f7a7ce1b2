use Rattle.ax_lex.proofs.Meanings.{meaning_kind}
use Rattle.ax_lex.proofs.laws.bytes_say_their_kind.Goals as goal

pub returns : goal.returns
returns c = meaning_kind
