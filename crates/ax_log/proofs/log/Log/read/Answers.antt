use Rattle.std.proofs.Common.{length}
use Rattle.ax_log.specs.AgreementLaws.{agrees_idles, frames_read_at_ok}
use Rattle.ax_log.proofs.log.Log.read.Goals as goal

pub returns-clause-bytes : goal.returns-clause-bytes
returns-clause-bytes g c = λ honest frames agrees.
    let stays = g.met.D.Disk.reads_may_stay c.args.disk.now
    (g.D.Disk.attached c.args.disk.now) honest in
    frames_read_at_ok c.args.self.now frames _ c.args.at
    (length c.args.buf.now) c.read.new.buf c.read.result stays agrees c.requires.within
    (c.read.ensures.bytes honest)

pub returns-clause-agrees : goal.returns-clause-agrees
returns-clause-agrees g c = λ honest frames agrees.
    agrees_idles c.args.self.now frames _ _ agrees (c.read.ensures.lists honest)
