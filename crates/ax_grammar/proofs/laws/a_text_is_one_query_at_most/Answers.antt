use Rattle.ax_grammar.proofs.CompleteText.{query_one}
use Rattle.ax_grammar.proofs.laws.a_text_is_one_query_at_most.Goals as goal

pub returns : goal.returns
returns c text params a b x y = query_one x y
