use Rattle.ax_frame.proofs.Slots as slots
use Rattle.ax_frame.proofs.laws.one_slot.Goals as goal

pub returns : goal.returns
returns c = slots.one_slot
