use Rattle.ax_image_grammar.proofs.Commits.{apart_after}
use Rattle.ax_image_grammar.proofs.laws.documents_keep_policies_apart.Goals as goal

pub returns : goal.returns
returns c = apart_after
