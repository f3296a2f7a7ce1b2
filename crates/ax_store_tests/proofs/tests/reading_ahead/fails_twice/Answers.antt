use Rattle.ax_store.proofs.AheadLemmas.{ahead_honest}
use Rattle.ax_store_tests.proofs.tests.reading_ahead.fails_twice.Goals as goal

pub read_ahead-requires-2 : goal.read_ahead-requires-2
read_ahead-requires-2 g c = record { agrees = ahead_honest g.C.PageCache.pages _ _ _ _ _ c.read_ahead.ensures.honest c.read_ahead.ensures.agrees }
