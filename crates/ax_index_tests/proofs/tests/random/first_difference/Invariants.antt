use Rattle.ax_cache.specs.PageLaws.{no_pages}
use Rattle.ax_index_support.specs.Ready.{IsReady}
use Rattle.ax_index_tests.proofs.tests.random.first_difference.Given as goal

abbrev pub invariant-loop-list : goal.invariant-loop-list
invariant-loop-list g l = IsReady (λ _. no_pages) l.store (g.D.Disk.is_honest l.disk) (g.D.Disk.history l.disk (g.D.Disk.attached l.disk))
