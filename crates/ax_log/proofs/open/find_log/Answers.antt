use Rattle.ax_log.proofs.OpenSteps.{found_log, broken_told}
use Rattle.ax_log.proofs.open.find_log.Goals as goal

pub returns-in-Ok-clause-tells : goal.returns-in-Ok-clause-tells
returns-in-Ok-clause-tells g c = λ honest.
    found_log _ _ _ (c.requires.counts honest) c.requires.known (c.in-Ok.ensures.is honest)
    (c.requires.settled honest) (c.frames_end.ensures.lists honest)

pub returns-in-Err-clause-tells : goal.returns-in-Err-clause-tells
returns-in-Err-clause-tells g c = λ honest.
    broken_told c.args.slot _ _ c.in-Err.fault (c.requires.counts honest) c.requires.known
    (c.in-Err.ensures.is honest)
