use Rattle.ax_grammar.proofs.InText.{in_sound, in_complete}
use Rattle.ax_grammar.proofs.laws.the_query_in_a_text_is_its_query.Goals as goal

pub returns : goal.returns
returns c text params query = (in_sound text params query, in_complete text params query)
