use Rattle.ax_container.proofs.Repolicing.{crowded, spacious}
use Rattle.ax_container.proofs.laws.a_policy_is_refused_where_eight_others_are_in_use.Goals as goal

pub returns-clause-refused : goal.returns-clause-refused
returns-clause-refused c = λ before policy many. crowded policy before many

pub returns-clause-made : goal.returns-clause-made
returns-clause-made c = λ before policy few. spacious policy before few
