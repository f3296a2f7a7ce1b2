use Rattle.ax_lex.proofs.Meanings.{lexemes_said}
use Rattle.ax_lex.proofs.laws.tokens_say_what_their_bytes_say.Goals as goal

pub returns : goal.returns
returns c = lexemes_said
