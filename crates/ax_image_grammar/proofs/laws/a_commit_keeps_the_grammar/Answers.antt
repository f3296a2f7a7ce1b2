use Rattle.ax_image_grammar.proofs.Commits.{commits}
use Rattle.ax_image_grammar.proofs.laws.a_commit_keeps_the_grammar.Goals as goal

pub returns : goal.returns
returns c = commits
