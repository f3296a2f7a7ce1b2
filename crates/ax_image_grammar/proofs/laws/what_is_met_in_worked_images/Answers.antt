use Rattle.ax_image_grammar.proofs.RowsMet.{policy_met, policy_not_taken, delta_met, text_not_met}
use Rattle.ax_image_grammar.proofs.RowsMet.{superseded_not_met}
use Rattle.ax_image_grammar.proofs.laws.what_is_met_in_worked_images.Goals as goal

pub returns-clause-policy : goal.returns-clause-policy
returns-clause-policy c = policy_met

pub returns-clause-not_taken : goal.returns-clause-not_taken
returns-clause-not_taken c = policy_not_taken

pub returns-clause-delta : goal.returns-clause-delta
returns-clause-delta c = delta_met

pub returns-clause-text : goal.returns-clause-text
returns-clause-text c = text_not_met

pub returns-clause-superseded : goal.returns-clause-superseded
returns-clause-superseded c = superseded_not_met
