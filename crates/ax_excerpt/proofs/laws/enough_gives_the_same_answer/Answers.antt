use Rattle.ax_excerpt.proofs.GroupsAlike.{same_answer}
use Rattle.ax_excerpt.proofs.laws.enough_gives_the_same_answer.Goals as goal

pub returns : goal.returns
returns c = λ excerpt query entries h. same_answer excerpt query entries h
