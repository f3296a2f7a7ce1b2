use Rattle.std.proofs.Common.{◌≡◌, length, refl, ◌∙◌, ap}
use Rattle.ax_log.specs.Forming.{fresh_slots}
use Rattle.ax_log.proofs.FormSteps.{laid_1, laid_2, laid_3, laid}
use Rattle.ax_log.proofs.form.lay_out.Goals as goal

pub returns-in_err-write_at-clause-any_moment : goal.returns-in_err-write_at-clause-any_moment
returns-in_err-write_at-clause-any_moment g c = λ honest.
    laid_1 fresh_slots refl _ (c.requires.empty honest) _ c.write_at.result
    (c.write_at.ensures.lists honest)

pub returns-in_err-write_at-2-clause-any_moment : goal.returns-in_err-write_at-2-clause-any_moment
returns-in_err-write_at-2-clause-any_moment g c = λ honest.
    let honest1 = c.write_at.ensures.honest ∙ honest in
    let short : length c.first_slots.result ≡ 32 = ap length c.first_slots.ensures in
    laid_2 c.first_slots.result short _ (c.requires.empty honest) _ c.in_ok-write_at.field-0
    (c.in_ok-write_at.ensures.lists honest) _ c.write_at-2.result
    (c.write_at-2.ensures.lists honest1)

pub returns-clause-any_moment : goal.returns-clause-any_moment
returns-clause-any_moment g c = λ honest.
    let honest1 = c.write_at.ensures.honest ∙ honest in
    let honest2 = c.write_at-2.ensures.honest ∙ honest1 in
    let may2 = g.met.D.Disk.reads_may_stay c.write_at-2.new.self
    (g.D.Disk.attached c.write_at-2.new.self) honest2 in
    let short : length c.first_slots.result ≡ 32 = ap length c.first_slots.ensures in
    laid_3 c.first_slots.result short _ (c.requires.empty honest) _ c.in_ok-write_at.field-0
    (c.in_ok-write_at.ensures.lists honest)
    _ c.in_ok-write_at-2.field-0 (c.in_ok-write_at-2.ensures.lists honest1) may2 _ c.sync.result
    (c.sync.ensures.lists honest2)

pub returns-clause-laid : goal.returns-clause-laid
returns-clause-laid g c = λ honest.
    let honest1 = c.write_at.ensures.honest ∙ honest in
    let honest2 = c.write_at-2.ensures.honest ∙ honest1 in
    let may2 = g.met.D.Disk.reads_may_stay c.write_at-2.new.self
    (g.D.Disk.attached c.write_at-2.new.self) honest2 in
    let short : length c.first_slots.result ≡ 32 = ap length c.first_slots.ensures in
    laid c.first_slots.result short _ (c.requires.empty honest) _ c.in_ok-write_at.field-0
    (c.in_ok-write_at.ensures.lists honest)
    _ c.in_ok-write_at-2.field-0 (c.in_ok-write_at-2.ensures.lists honest1) may2 _
    c.first_slots.ensures c.sync.result (c.sync.ensures.lists honest2)
