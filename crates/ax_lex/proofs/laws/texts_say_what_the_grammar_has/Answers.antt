use Rattle.ax_lex.proofs.Values.{text_sound, text_complete}
use Rattle.ax_lex.proofs.laws.texts_say_what_the_grammar_has.Goals as goal

pub returns : goal.returns
returns c bytes value = (λ e. text_sound bytes value e, λ h. text_complete bytes value h.0 h.1)
