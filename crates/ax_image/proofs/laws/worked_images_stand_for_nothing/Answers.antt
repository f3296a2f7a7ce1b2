use Rattle.ax_image.proofs.InGrammar.{text_row_stands_not, policy_row_stands_not}
use Rattle.ax_image.proofs.InGrammar.{delta_row_stands_not, superseded_row_stands_not}
use Rattle.ax_image.proofs.laws.worked_images_stand_for_nothing.Goals as goal

pub returns-clause-text : goal.returns-clause-text
returns-clause-text c = text_row_stands_not

pub returns-clause-policy : goal.returns-clause-policy
returns-clause-policy c = policy_row_stands_not

pub returns-clause-delta : goal.returns-clause-delta
returns-clause-delta c = delta_row_stands_not

pub returns-clause-superseded : goal.returns-clause-superseded
returns-clause-superseded c = superseded_row_stands_not
