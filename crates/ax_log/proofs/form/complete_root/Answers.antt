use Rattle.std.proofs.Common.{◌∙◌}
use Rattle.ax_log.proofs.FormSteps.{formed_1, formed_2, formed}
use Rattle.ax_log.proofs.form.complete_root.Goals as goal

pub returns-in_err-write_at-clause-any_moment : goal.returns-in_err-write_at-clause-any_moment
returns-in_err-write_at-clause-any_moment g c = λ honest.
    formed_1 _ (c.requires.laid honest) _ c.write_at.result (c.write_at.ensures.lists honest)

pub returns-clause-any_moment : goal.returns-clause-any_moment
returns-clause-any_moment g c = λ honest.
    let honest1 = c.write_at.ensures.honest ∙ honest in
    let may1 = g.met.D.Disk.reads_may_stay c.write_at.new.self
    (g.D.Disk.attached c.write_at.new.self) honest1 in
    formed_2 _ (c.requires.laid honest) _ c.in_ok-write_at.field-0
    (c.in_ok-write_at.ensures.lists honest) may1 _ c.sync.result (c.sync.ensures.lists honest1)

pub returns-clause-formed : goal.returns-clause-formed
returns-clause-formed g c = λ honest.
    let honest1 = c.write_at.ensures.honest ∙ honest in
    let may1 = g.met.D.Disk.reads_may_stay c.write_at.new.self
    (g.D.Disk.attached c.write_at.new.self) honest1 in
    formed _ (c.requires.laid honest) _ c.in_ok-write_at.field-0
    (c.in_ok-write_at.ensures.lists honest) may1 _ c.sync.result (c.sync.ensures.lists honest1)
