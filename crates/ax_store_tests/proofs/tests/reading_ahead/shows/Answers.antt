use Rattle.ax_store.proofs.AheadLemmas.{ahead_honest}
use Rattle.ax_store_tests.proofs.tests.reading_ahead.shows.Goals as goal

pub returns-then-text-len : goal.returns-then-text-len
returns-then-text-len g c = record { agrees = ahead_honest g.C.PageCache.pages _ _ _ _ _ c.read_ahead.ensures.honest c.read_ahead.ensures.agrees }

pub returns-else-text-len : goal.returns-else-text-len
returns-else-text-len g c = record { agrees = ahead_honest g.C.PageCache.pages _ _ _ _ _ c.read_ahead.ensures.honest c.read_ahead.ensures.agrees }

pub returns-in-Ok-false : goal.returns-in-Ok-false
returns-in-Ok-false g c = record { agrees = ahead_honest g.C.PageCache.pages _ _ _ _ _ c.read_ahead.ensures.honest c.read_ahead.ensures.agrees }

pub returns-in-Err : goal.returns-in-Err
returns-in-Err g c = record { agrees = ahead_honest g.C.PageCache.pages _ _ _ _ _ c.read_ahead.ensures.honest c.read_ahead.ensures.agrees }
