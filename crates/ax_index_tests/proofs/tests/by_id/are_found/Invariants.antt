use Rattle.ax_index_support.specs.Ready.{IsReady}
use Rattle.ax_index_tests.proofs.tests.by_id.are_found.Given as goal

abbrev pub invariant-loop-row : goal.invariant-loop-row
invariant-loop-row g l = IsReady g.C.PageCache.pages l.store (g.D.Disk.is_honest l.disk) (g.D.Disk.history l.disk (g.D.Disk.attached l.disk))
