use Rattle.ax_index_support.specs.Ready.{IsReady}
use Rattle.ax_index_tests.proofs.tests.many.merge_all.Given as goal

abbrev pub invariant-loop-round : goal.invariant-loop-round
invariant-loop-round g l = IsReady g.C.PageCache.pages l.store (g.D.Disk.is_honest l.disk) (g.D.Disk.history l.disk (g.D.Disk.attached l.disk))
