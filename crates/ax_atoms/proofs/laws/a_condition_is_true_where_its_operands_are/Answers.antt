use Rattle.ax_atoms.proofs.Split.{true_where_operands_are}
use Rattle.ax_atoms.proofs.laws.a_condition_is_true_where_its_operands_are.Goals as goal

pub returns : goal.returns
returns c = true_where_operands_are
