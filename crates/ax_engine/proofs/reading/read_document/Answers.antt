-- What the store's call leaves.
use Rattle.ax_engine.proofs.Scanning.{scans_of}
use Rattle.ax_engine.proofs.reading.read_document.Goals as goal

pub read_ahead-requires : goal.read_ahead-requires
read_ahead-requires g c = record { agrees = λ honest works. c.requires.ready.agrees honest }

pub returns-clause-scans : goal.returns-clause-scans
returns-clause-scans g c =
    scans_of g.C.PageCache.pages _ c.read_ahead.result _ _ _ _ _ _ _ c.requires.ready.works c.read_ahead.ensures.reads.same
    c.read_ahead.ensures.slots c.read_ahead.ensures.agrees
    c.read_ahead.ensures.fails.works c.read_ahead.ensures.fails.fails c.read_ahead.ensures.fails.memory
    c.read_ahead.ensures.fails.only c.read_ahead.ensures.reads.lists
    c.read_ahead.ensures.fails.cause
