use Rattle.ax_grammar.proofs.Scoping.{query_scoped}
use Rattle.ax_grammar.proofs.laws.a_query_is_scoped.Goals as goal

pub returns : goal.returns
returns c text params query is = query_scoped is
