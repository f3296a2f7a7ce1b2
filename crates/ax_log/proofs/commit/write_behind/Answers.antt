use Rattle.std.proofs.Common.{◌∙◌}
use Rattle.ax_log.proofs.CommitSteps.{written_behind, synced_behind}
use Rattle.ax_log.proofs.commit.write_behind.Goals as goal

pub returns-in_err-write_at-clause-any_moment : goal.returns-in_err-write_at-clause-any_moment
returns-in_err-write_at-clause-any_moment g c = λ honest root frames apart end-is rests.
    let stays = g.met.D.Disk.reads_may_stay c.args.disk.now _ honest in
    written_behind root c.args.area frames c.args.end apart end-is c.args.frame.now _ _ stays
    (c.requires.within honest) rests c.write_at.result (c.write_at.ensures.lists honest)

pub returns-clause-any_moment : goal.returns-clause-any_moment
returns-clause-any_moment g c = λ honest root frames apart end-is rests.
    let stays = g.met.D.Disk.reads_may_stay c.args.disk.now _ honest in
    let honest1 = c.write_at.ensures.honest ∙ honest in
    let stays_mid = g.met.D.Disk.reads_may_stay c.write_at.new.self
    (g.D.Disk.attached c.write_at.new.self) honest1 in
    synced_behind root c.args.area frames c.args.end apart end-is c.args.frame.now _ _ stays
    (c.requires.within honest) rests _ c.in_ok-write_at.field-0 c.sync.result stays_mid
    (c.in_ok-write_at.ensures.lists honest) (c.sync.ensures.lists honest1)
