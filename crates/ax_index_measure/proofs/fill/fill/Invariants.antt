use Rattle.ax_cache.specs.PageLaws.{no_pages}
use Rattle.ax_index_support.specs.Ready.{IsReady}
use Rattle.ax_index_measure.proofs.fill.fill.Given as goal

abbrev pub invariant-loop-number : goal.invariant-loop-number
invariant-loop-number g l = IsReady (λ _. no_pages) l.store (g.D.Disk.is_honest l.disk) (g.D.Disk.history l.disk (g.D.Disk.attached l.disk))
