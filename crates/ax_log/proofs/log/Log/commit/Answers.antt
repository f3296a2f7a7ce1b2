use Rattle.std.proofs.Common.{refl, ◌∙◌}
use Rattle.ax_log.proofs.CommitSteps.{apart_root, half_turns, ready_now, staged_root, both_turn, agrees_after}
use Rattle.ax_log.proofs.log.Log.commit.Goals as goal

pub returns-in_default-clause-any_moment : goal.returns-in_default-clause-any_moment
returns-in_default-clause-any_moment g c = λ honest frames span agrees frame.
    let log = c.args.self.now in
    let apart = apart_root log.slot log.end frames c.args.frame.now span _
    agrees.counts agrees.known agrees.end_is agrees.rests frame in
    half_turns log.slot log.end frames c.args.frame.now span _ agrees.counts agrees.known
    agrees.end_is agrees.rests frame _
    (c.write_behind.ensures.any_moment honest _ frames apart agrees.end_is agrees.rests)

pub returns-in_default-open_gate-clause-any_moment :
    goal.returns-in_default-open_gate-clause-any_moment
returns-in_default-open_gate-clause-any_moment g c = λ honest frames span agrees frame.
    let log = c.args.self.now in
    let text = c.args.frame.now in
    let stays = g.met.D.Disk.reads_may_stay c.args.disk.now
    (g.D.Disk.attached c.args.disk.now) honest in
    let staged = c.in-Ok.ensures.staged honest in
    let honest1 = c.write_behind.ensures.honest ∙ honest in
    let apart = apart_root log.slot log.end frames text span _ agrees.counts agrees.known
    agrees.end_is agrees.rests frame in
    let ready = ready_now log.slot log.end frames text span _ agrees.counts agrees.known
    agrees.end_is agrees.rests frame _ staged stays in
    both_turn log.slot log.end frames text span _ agrees.counts agrees.known agrees.end_is
    agrees.rests frame _ staged stays _
    (c.write_behind.ensures.any_moment honest _ frames apart agrees.end_is agrees.rests)
    (c.open_gate.ensures.any_moment honest1 frames span apart agrees.end_is staged.settled ready)

pub returns-clause-acknowledged : goal.returns-clause-acknowledged
returns-clause-acknowledged g c = λ honest frames span agrees frame.
    let log = c.args.self.now in
    let text = c.args.frame.now in
    let stays = g.met.D.Disk.reads_may_stay c.args.disk.now
    (g.D.Disk.attached c.args.disk.now) honest in
    let staged = c.in-Ok.ensures.staged honest in
    let honest1 = c.write_behind.ensures.honest ∙ honest in
    let apart = apart_root log.slot log.end frames text span _ agrees.counts agrees.known
    agrees.end_is agrees.rests frame in
    let ready = ready_now log.slot log.end frames text span _ agrees.counts agrees.known
    agrees.end_is agrees.rests frame _ staged stays in
    agrees_after log.slot log.end frames text span _ agrees.counts agrees.known agrees.end_is
    agrees.rests frame _ (g.D.Disk.history c.write_behind.new.disk
    (g.D.Disk.attached c.write_behind.new.disk)) _ refl refl
    (staged_root log.slot log.end frames text span _ agrees.counts agrees.known agrees.end_is
    agrees.rests frame _ staged stays)
    (c.in-Ok-open_gate.ensures.root honest1 apart)
    (c.in-Ok-open_gate.ensures.opened honest1 frames span apart agrees.end_is ready)

pub returns-clause-any_moment : goal.returns-clause-any_moment
returns-clause-any_moment g c = λ honest frames span agrees frame.
    let log = c.args.self.now in
    let text = c.args.frame.now in
    let stays = g.met.D.Disk.reads_may_stay c.args.disk.now
    (g.D.Disk.attached c.args.disk.now) honest in
    let staged = c.in-Ok.ensures.staged honest in
    let honest1 = c.write_behind.ensures.honest ∙ honest in
    let apart = apart_root log.slot log.end frames text span _ agrees.counts agrees.known
    agrees.end_is agrees.rests frame in
    let ready = ready_now log.slot log.end frames text span _ agrees.counts agrees.known
    agrees.end_is agrees.rests frame _ staged stays in
    both_turn log.slot log.end frames text span _ agrees.counts agrees.known agrees.end_is
    agrees.rests frame _ staged stays _
    (c.write_behind.ensures.any_moment honest _ frames apart agrees.end_is agrees.rests)
    (c.open_gate.ensures.any_moment honest1 frames span apart agrees.end_is staged.settled ready)
