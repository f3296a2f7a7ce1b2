use Rattle.std.proofs.Common.{◌∙◌}
use Rattle.ax_log.proofs.FormSteps.{clear_1, clear_2, clear_3, clear_4, cleared}
use Rattle.ax_log.proofs.form.clear.Goals as goal

pub returns-in_err-cut-clause-any_moment : goal.returns-in_err-cut-clause-any_moment
returns-in_err-cut-clause-any_moment g c = λ honest.
    let may0 = g.met.D.Disk.reads_may_stay c.args.disk.now
    (g.D.Disk.attached c.args.disk.now) honest in
    clear_1 _ (c.requires.settled honest) (c.requires.fresh honest) may0 _ c.cut.result
    (c.cut.ensures.lists honest)

pub returns-in_err-cut-2-clause-any_moment : goal.returns-in_err-cut-2-clause-any_moment
returns-in_err-cut-2-clause-any_moment g c = λ honest.
    let may0 = g.met.D.Disk.reads_may_stay c.args.disk.now
    (g.D.Disk.attached c.args.disk.now) honest in
    let honest1 = c.cut.ensures.honest ∙ honest in
    let may1 = g.met.D.Disk.reads_may_stay c.cut.new.self
    (g.D.Disk.attached c.cut.new.self) honest1 in
    clear_2 _ (c.requires.settled honest) (c.requires.fresh honest) may0 _ c.in_ok-cut.field-0
    (c.in_ok-cut.ensures.lists honest) may1 _ c.cut-2.result (c.cut-2.ensures.lists honest1)

pub returns-in_err-cut-3-clause-any_moment : goal.returns-in_err-cut-3-clause-any_moment
returns-in_err-cut-3-clause-any_moment g c = λ honest.
    let may0 = g.met.D.Disk.reads_may_stay c.args.disk.now
    (g.D.Disk.attached c.args.disk.now) honest in
    let honest1 = c.cut.ensures.honest ∙ honest in
    let honest2 = c.cut-2.ensures.honest ∙ honest1 in
    let may1 = g.met.D.Disk.reads_may_stay c.cut.new.self
    (g.D.Disk.attached c.cut.new.self) honest1 in
    let may2 = g.met.D.Disk.reads_may_stay c.cut-2.new.self
    (g.D.Disk.attached c.cut-2.new.self) honest2 in
    clear_3 _ (c.requires.settled honest) (c.requires.fresh honest) may0 _ c.in_ok-cut.field-0
    (c.in_ok-cut.ensures.lists honest) may1 _ c.in_ok-cut-2.field-0
    (c.in_ok-cut-2.ensures.lists honest1) may2
    _ c.cut-3.result (c.cut-3.ensures.lists honest2)

pub returns-clause-any_moment : goal.returns-clause-any_moment
returns-clause-any_moment g c = λ honest.
    let may0 = g.met.D.Disk.reads_may_stay c.args.disk.now
    (g.D.Disk.attached c.args.disk.now) honest in
    let honest1 = c.cut.ensures.honest ∙ honest in
    let honest2 = c.cut-2.ensures.honest ∙ honest1 in
    let honest3 = c.cut-3.ensures.honest ∙ honest2 in
    let may1 = g.met.D.Disk.reads_may_stay c.cut.new.self
    (g.D.Disk.attached c.cut.new.self) honest1 in
    let may2 = g.met.D.Disk.reads_may_stay c.cut-2.new.self
    (g.D.Disk.attached c.cut-2.new.self) honest2 in
    let may3 = g.met.D.Disk.reads_may_stay c.cut-3.new.self
    (g.D.Disk.attached c.cut-3.new.self) honest3 in
    clear_4 _ (c.requires.settled honest) (c.requires.fresh honest) may0 _ c.in_ok-cut.field-0
    (c.in_ok-cut.ensures.lists honest) may1 _ c.in_ok-cut-2.field-0
    (c.in_ok-cut-2.ensures.lists honest1) may2
    _ c.in_ok-cut-3.field-0 (c.in_ok-cut-3.ensures.lists honest2) may3 _ c.sync.result
    (c.sync.ensures.lists honest3)

pub returns-clause-empty : goal.returns-clause-empty
returns-clause-empty g c = λ honest.
    let may0 = g.met.D.Disk.reads_may_stay c.args.disk.now
    (g.D.Disk.attached c.args.disk.now) honest in
    let honest1 = c.cut.ensures.honest ∙ honest in
    let honest2 = c.cut-2.ensures.honest ∙ honest1 in
    let honest3 = c.cut-3.ensures.honest ∙ honest2 in
    let may1 = g.met.D.Disk.reads_may_stay c.cut.new.self
    (g.D.Disk.attached c.cut.new.self) honest1 in
    let may2 = g.met.D.Disk.reads_may_stay c.cut-2.new.self
    (g.D.Disk.attached c.cut-2.new.self) honest2 in
    let may3 = g.met.D.Disk.reads_may_stay c.cut-3.new.self
    (g.D.Disk.attached c.cut-3.new.self) honest3 in
    cleared _ (c.requires.settled honest) (c.requires.fresh honest) may0 _ c.in_ok-cut.field-0
    (c.in_ok-cut.ensures.lists honest) may1 _ c.in_ok-cut-2.field-0
    (c.in_ok-cut-2.ensures.lists honest1) may2
    _ c.in_ok-cut-3.field-0 (c.in_ok-cut-3.ensures.lists honest2) may3 _ c.sync.result
    (c.sync.ensures.lists honest3)
