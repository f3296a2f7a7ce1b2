use Rattle.ax_image_grammar.proofs.MetThere.{nothing_met, has_table}
use Rattle.ax_image_grammar.proofs.laws.nothing_is_met_in_the_grammar.Goals as goal

pub returns-clause-met : goal.returns-clause-met
returns-clause-met c = nothing_met

pub returns-clause-table : goal.returns-clause-table
returns-clause-table c = has_table
