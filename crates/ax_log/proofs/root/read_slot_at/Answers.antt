use Rattle.std.proofs.Common.{refl}
use Rattle.ax_log.proofs.RootSteps.{slot_read}
use Rattle.ax_log.proofs.root.read_slot_at.Goals as goal

pub returns-clause-is : goal.returns-clause-is
returns-clause-is g c = λ honest within. slot_read _ _ c.args.at _ _ within refl
    (c.in_ok-read.ensures.bytes honest) c.read_slot.ensures.is
