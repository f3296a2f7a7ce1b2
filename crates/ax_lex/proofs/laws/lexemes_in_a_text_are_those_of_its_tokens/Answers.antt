use Rattle.ax_lex.proofs.LexemeLaws.{lexemes_exact}
use Rattle.ax_lex.proofs.laws.lexemes_in_a_text_are_those_of_its_tokens.Goals as goal

pub returns : goal.returns
returns c = lexemes_exact
