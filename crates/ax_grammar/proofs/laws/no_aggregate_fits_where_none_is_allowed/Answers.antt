use Rattle.ax_grammar.proofs.AggregatesFit.{none_fits}
use Rattle.ax_grammar.proofs.laws.no_aggregate_fits_where_none_is_allowed.Goals as goal

pub returns : goal.returns
returns c expr = none_fits expr
