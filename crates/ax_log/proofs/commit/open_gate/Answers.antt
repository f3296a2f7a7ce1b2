use Rattle.std.proofs.Common.{◌∙◌}
use Rattle.ax_log.proofs.CommitSteps.{gate_written, gate_synced, gate_opened}
use Rattle.ax_log.proofs.commit.open_gate.Goals as goal

pub returns-in_err-write_at-clause-any_moment : goal.returns-in_err-write_at-clause-any_moment
returns-in_err-write_at-clause-any_moment g c = λ honest frames span apart end-is settled ready.
    let stays = g.met.D.Disk.reads_may_stay c.args.disk.now
    (g.D.Disk.attached c.args.disk.now) honest in
    gate_written c.args.area frames c.args.end span apart end-is _ ready settled stays _
    c.write_at.result (c.write_at.ensures.lists honest)

pub returns-clause-any_moment : goal.returns-clause-any_moment
returns-clause-any_moment g c = λ honest frames span apart end-is settled ready.
    let stays = g.met.D.Disk.reads_may_stay c.args.disk.now
    (g.D.Disk.attached c.args.disk.now) honest in
    let honest1 = c.write_at.ensures.honest ∙ honest in
    let stays_mid = g.met.D.Disk.reads_may_stay c.write_at.new.self
    (g.D.Disk.attached c.write_at.new.self) honest1 in
    gate_synced c.args.area frames c.args.end span apart end-is _ ready settled stays _ _
    c.in_ok-write_at.field-0 c.sync.result stays_mid
    (c.in_ok-write_at.ensures.lists honest) (c.sync.ensures.lists honest1)

pub returns-clause-opened : goal.returns-clause-opened
returns-clause-opened g c = λ honest frames span apart end-is ready.
    gate_opened c.args.area frames c.args.end span apart end-is _ ready _ _ c.in_ok-write_at.field-0
    (c.in_ok-write_at.ensures.lists honest) c.sync.result
    (c.sync.ensures.lists (c.write_at.ensures.honest ∙ honest))
