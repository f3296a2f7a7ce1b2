-- What the store's call leaves.
use Rattle.ax_engine.proofs.Scanning.{scans_of}
use Rattle.ax_engine.proofs.reading.fetch_document.Goals as goal

pub fetch_ahead-requires : goal.fetch_ahead-requires
fetch_ahead-requires g c = record { agrees = λ honest works. c.requires.ready.agrees honest }

pub returns-clause-scans : goal.returns-clause-scans
returns-clause-scans g c =
    scans_of g.C.PageCache.pages _ c.fetch_ahead.result _ _ _ _ _ _ _ c.requires.ready.works c.fetch_ahead.ensures.reads.same c.fetch_ahead.ensures.slots
    c.fetch_ahead.ensures.agrees c.fetch_ahead.ensures.fails.works c.fetch_ahead.ensures.fails.fails
    c.fetch_ahead.ensures.fails.memory c.fetch_ahead.ensures.fails.only
    c.fetch_ahead.ensures.reads.lists c.fetch_ahead.ensures.fails.cause
