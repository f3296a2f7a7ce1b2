use Rattle.ax_area.proofs.Raising.{raised}
use Rattle.ax_area.proofs.laws.a_later_slot_says_the_same.Goals as goal

pub returns : goal.returns
returns c = raised
