-- What is told as damage stands in the image.
use Rattle.ax_documents.proofs.Meeting.{write_met}
use Rattle.ax_documents.proofs.documents.Documents.delete.Goals as goal

pub returns-clause-damage : goal.returns-clause-damage
returns-clause-damage g c = λ honest.
    write_met g.C.PageCache.pages _ _ _ _ _ _ _ honest (c.requires.works.agrees honest)
    (g.met.D.Disk.reads_may_stay c.args.disk.now (g.D.Disk.attached c.args.disk.now) honest) _ c.delete.ensures.leaves
