use Rattle.std.proofs.Common.{◌≤◌, ℕ, length, ◌∙◌, ap, subst, arith, List, take, drop}
use Rattle.ax_disk.specs.model.Image.{Image}
use Rattle.ax_frame.specs.RootSlot.{IsSlot}
use Rattle.ax_log.proofs.RootSteps.{root_read}
use Rattle.ax_log.proofs.root.read_root.Goals as goal

pub returns-clause-is : goal.returns-clause-is
returns-clause-is g c = λ honest.
    let root = (g.D.Disk.history c.args.disk.now (g.D.Disk.attached c.args.disk.now)).reads.root in
    let long : 33 ≤ length root = omega (
      arith,
      c.in_ok-len.ensures.length honest,
      c.if-branch-lt-WHOLE_ROOT.false,
    ) in
    let honest1 = c.len.ensures.honest ∙ honest in
    let honest2 = c.read_slot_at.ensures.honest ∙ honest1 in
    let same1 = ap (λ (i : Image). i.root) (c.len.ensures.lists honest).reads in
    let same2 = ap (λ (i : Image). i.root) (c.read_slot_at.ensures.lists honest1).reads ∙ same1 in
    let one = c.in_ok-first.ensures.is honest1 (omega (arith, ap length same1)) in
    let other = c.in_ok-second.ensures.is honest2 (omega (arith, ap length same2)) in
    root_read root c.in_ok-first.first c.in_ok-second.second c.choose.result long
    (subst (λ (r : List ℕ). IsSlot (take 16 (drop 0 r)) c.in_ok-first.first) same1 one)
    (subst (λ (r : List ℕ). IsSlot (take 16 (drop 16 r)) c.in_ok-second.second) same2 other)
    c.choose.ensures
