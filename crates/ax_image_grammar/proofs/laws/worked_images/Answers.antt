use Rattle.ax_image_grammar.proofs.RowsSay.{text_outside, policy_outside, delta_outside}
use Rattle.ax_image_grammar.proofs.RowsSay.{superseded_outside}
use Rattle.ax_image_grammar.proofs.laws.worked_images.Goals as goal

pub returns-clause-text : goal.returns-clause-text
returns-clause-text c = text_outside

pub returns-clause-policy : goal.returns-clause-policy
returns-clause-policy c = policy_outside

pub returns-clause-delta : goal.returns-clause-delta
returns-clause-delta c = delta_outside

pub returns-clause-superseded : goal.returns-clause-superseded
returns-clause-superseded c = superseded_outside
