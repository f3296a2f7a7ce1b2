use Rattle.ax_image_grammar.proofs.Junk.{no_plain_policy}
use Rattle.ax_image_grammar.proofs.laws.a_policy_text_is_normal.Goals as goal

pub returns : goal.returns
returns c = no_plain_policy
