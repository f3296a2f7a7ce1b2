use Rattle.ax_grammar.proofs.Scoping.{groups_made}
use Rattle.ax_grammar.proofs.laws.a_query_has_groups_where_they_are_written.Goals as goal

pub returns : goal.returns
returns c written = groups_made written
