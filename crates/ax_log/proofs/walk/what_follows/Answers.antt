use Rattle.std.proofs.Common.{arith}
use Rattle.ax_log.proofs.WalkSteps.{frame_found}
use Rattle.ax_log.proofs.walk.what_follows.Goals as goal

pub returns-else-left-len-clause-is : goal.returns-else-left-len-clause-is
returns-else-left-len-clause-is c = λ bytes read left-is.
    let head = c.in-Frame.ensures.is in
    frame_found bytes c.args.head.now c.in-Frame.len c.args.left read left-is (omega arith)
    (omega arith) head.0 head.1 head.2
