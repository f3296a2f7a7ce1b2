use Rattle.ax_store.specs.ReadAhead.{AgreesAheadUnlessFailed}
use Rattle.ax_store_tests.proofs.tests.reading_ahead.shows_each.Given as goal

abbrev pub invariant-loop-number : goal.invariant-loop-number
invariant-loop-number g l = AgreesAheadUnlessFailed g.C.PageCache.pages (g.D.Disk.is_honest l.disk) l.store l.ahead
    (g.D.Disk.history l.disk (g.D.Disk.attached l.disk))
