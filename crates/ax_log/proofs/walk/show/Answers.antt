use Rattle.std.proofs.Common.{length, arith}
use Rattle.ax_disk.specs.model.Image.{list_of}
use Rattle.ax_log.proofs.WalkSteps.{shown}
use Rattle.ax_log.proofs.walk.show.Goals as goal

pub returns-clause-shows : goal.returns-clause-shows
returns-clause-shows g c = λ honest.
    let window = c.args.window.now in
    let list = list_of c.args.ext (g.D.Disk.history c.args.disk.now
    (g.D.Disk.attached c.args.disk.now)).reads in
    shown window.bytes.len (length c.deref_mut.result.now) window.bytes.items c.read.new.buf list
    c.args.start (omega arith) (c.in_ok-read.ensures.bytes honest)
