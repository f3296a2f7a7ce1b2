use Rattle.ax_image_grammar.proofs.MetThere.{met_unreadable, met_exactly, met_outside, taken_met}
use Rattle.ax_image_grammar.proofs.MetThere.{no_table_outside}
use Rattle.ax_image_grammar.proofs.laws.what_is_met_is_outside.Goals as goal

pub returns-clause-unreadable : goal.returns-clause-unreadable
returns-clause-unreadable c = met_unreadable

pub returns-clause-exactly : goal.returns-clause-exactly
returns-clause-exactly c = met_exactly

pub returns-clause-outside : goal.returns-clause-outside
returns-clause-outside c = met_outside

pub returns-clause-taken : goal.returns-clause-taken
returns-clause-taken c = taken_met

pub returns-clause-table : goal.returns-clause-table
returns-clause-table c = no_table_outside
