use Rattle.ax_log.specs.CommitLaws.{some_frame}
use Rattle.ax_log.proofs.tests.frame.Goals as goal

pub returns : goal.returns
returns c = some_frame _ _ c.in_ok-text.ensures.can c.in_ok-text.ensures.spelled
