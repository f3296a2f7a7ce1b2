use Rattle.std.proofs.Common.{refl, sym, ◌∙◌, arith}
use Rattle.ax_faults.specs.FaultLaws.{rose_since}
use Rattle.ax_disk.specs.model.Image.{list_of}
use Rattle.ax_disk.specs.laws.StaysLaws.{idles_join}
use Rattle.ax_log.specs.declared.walk.Next.TheVariants.{Closed, Frame, Broken}
use Rattle.ax_log.proofs.WalkSteps.{leads_start, leads_on, ends_there, broken_there, broken_at_end, follows_there, shows_of, damaged_told, no_disk_cause}
use Rattle.ax_log.proofs.walk.frames_end.Goals as goal

pub loop-at-init : goal.loop-at-init
loop-at-init g c =
    record {
      within = omega arith;
      led = λ honest. leads_start _;
      shows = λ honest. shows_of c.show.new.window c.args.area _ _
          (c.len.ensures.lists honest).reads (c.in-Ok-show.ensures.shows
          (c.len.ensures.honest ∙ honest));
      idle = λ honest. idles_join _ _ _ (c.len.ensures.lists honest)
          (c.show.ensures.lists (c.len.ensures.honest ∙ honest));
      same_store = c.show.ensures.attached ∙ c.len.ensures.attached;
      same_honesty = c.show.ensures.honest ∙ c.len.ensures.honest;
      faults = c.in-Ok-show.ensures.uncounted ∙ c.in-Ok-len.ensures.uncounted;
    }

pub reach-requires-clause-shows : goal.reach-requires-clause-shows
reach-requires-clause-shows g c = λ honest1.
    let inv = c.loop-at.invariant in
    let honest = sym inv.same_honesty ∙ honest1 in
    shows_of c.loop-at.window c.args.area _ _ (sym (inv.idle honest).reads) (inv.shows honest)

pub returns-in_default-reach-clause-lists : goal.returns-in_default-reach-clause-lists
returns-in_default-reach-clause-lists g c = λ honest.
    idles_join _ _ _ (c.loop-at.invariant.idle honest)
    (c.reach.ensures.lists (c.loop-at.invariant.same_honesty ∙ honest))

pub returns-in_default-reach-clause-cause : goal.returns-in_default-reach-clause-cause
returns-in_default-reach-clause-cause g c =
    let same = c.loop-at.invariant.faults in
    record {
      never_falls = omega (arith, same, c.reach.ensures.cause.never_falls);
      failed = λ by_disk. rose_since _ _ _ _ (omega (arith, same)) (omega arith)
          (c.in_default-reach.ensures.cause.failed refl);
      uncounted = tt;
    }

pub returns-in-Closed-clause-is : goal.returns-in-Closed-clause-is
returns-in-Closed-clause-is g c = λ honest.
    let inv = c.loop-at.invariant in
    let list = list_of c.args.area (g.D.Disk.history c.args.disk.now
    (g.D.Disk.attached c.args.disk.now)).reads in
    let shows = shows_of c.reach.new.window c.args.area _ _ (inv.idle honest).reads
    (c.in-Ok-reach.ensures.shows (inv.same_honesty ∙ honest)) in
    ends_there list c.loop-at.at (inv.led honest)
    (follows_there list c.loop-at.at c.in-Ok-len.len c.head.result Closed
    (c.in-Ok-len.ensures.length honest) (c.head.ensures list shows) c.in-Closed.ensures.is)

pub returns-in-Closed-clause-lists : goal.returns-in-Closed-clause-lists
returns-in-Closed-clause-lists g c = λ honest.
    idles_join _ _ _ (c.loop-at.invariant.idle honest)
    (c.reach.ensures.lists (c.loop-at.invariant.same_honesty ∙ honest))

pub returns-in-Closed-clause-cause : goal.returns-in-Closed-clause-cause
returns-in-Closed-clause-cause g c =
    record {
      never_falls = omega (
        arith,
        c.loop-at.invariant.faults,
        c.reach.ensures.cause.never_falls,
      );
      failed = λ by_disk. absurd by_disk;
      uncounted = c.in-Ok-reach.ensures.uncounted ∙ c.loop-at.invariant.faults;
    }

pub loop-at-preserved : goal.loop-at-preserved
loop-at-preserved g c =
    let inv = c.loop-at.invariant in
    record {
      within = omega (arith, c.in-Frame.ensures.advances.1);
      led = λ honest.
          let list = list_of c.args.area (g.D.Disk.history c.args.disk.now
          (g.D.Disk.attached c.args.disk.now)).reads in
          let shows = shows_of c.reach.new.window c.args.area _ _ (inv.idle honest).reads
          (c.in-Ok-reach.ensures.shows (inv.same_honesty ∙ honest)) in
          leads_on list c.loop-at.at c.in-Frame.size (inv.led honest)
          (follows_there list c.loop-at.at c.in-Ok-len.len c.head.result (Frame c.in-Frame.size)
          (c.in-Ok-len.ensures.length honest)
          (c.head.ensures list shows) c.in-Frame.ensures.is);
      shows = λ honest. shows_of c.reach.new.window c.args.area _ _ (inv.idle honest).reads
          (c.in-Ok-reach.ensures.shows (inv.same_honesty ∙ honest));
      idle = λ honest. idles_join _ _ _ (inv.idle honest)
          (c.reach.ensures.lists (inv.same_honesty ∙ honest));
      same_store = c.reach.ensures.attached ∙ inv.same_store;
      same_honesty = c.reach.ensures.honest ∙ inv.same_honesty;
      faults = c.in-Ok-reach.ensures.uncounted ∙ inv.faults;
    }

pub returns-in-Broken-clause-is : goal.returns-in-Broken-clause-is
returns-in-Broken-clause-is g c = λ honest.
    let inv = c.loop-at.invariant in
    let list = list_of c.args.area (g.D.Disk.history c.args.disk.now
    (g.D.Disk.attached c.args.disk.now)).reads in
    let shows = shows_of c.reach.new.window c.args.area _ _ (inv.idle honest).reads
    (c.in-Ok-reach.ensures.shows (inv.same_honesty ∙ honest)) in
    let broken = follows_there list c.loop-at.at c.in-Ok-len.len c.head.result Broken
    (c.in-Ok-len.ensures.length honest) (c.head.ensures list shows) c.in-Broken.ensures.is in
    damaged_told c.args.area list c.loop-at.at c.damaged.result c.damaged.ensures
    (broken_there list c.loop-at.at (inv.led honest) broken.0 broken.1)

pub returns-in-Broken-clause-lists : goal.returns-in-Broken-clause-lists
returns-in-Broken-clause-lists g c = λ honest.
    idles_join _ _ _ (c.loop-at.invariant.idle honest)
    (c.reach.ensures.lists (c.loop-at.invariant.same_honesty ∙ honest))

pub returns-in-Broken-clause-cause : goal.returns-in-Broken-clause-cause
returns-in-Broken-clause-cause g c =
    no_disk_cause c.damaged.result _ _ _ _ c.damaged.ensures
    (c.in-Ok-reach.ensures.uncounted ∙ c.loop-at.invariant.faults)

pub returns-clause-is : goal.returns-clause-is
returns-clause-is g c = λ honest.
    let inv = c.loop-at.invariant in
    let list = list_of c.args.area (g.D.Disk.history c.args.disk.now
    (g.D.Disk.attached c.args.disk.now)).reads in
    damaged_told c.args.area list c.loop-at.at c.damaged-2.result c.damaged-2.ensures
    (broken_at_end list c.loop-at.at (inv.led honest)
    (omega (arith, c.in-Ok-len.ensures.length honest, c.loop-at-test.false)))

pub returns-clause-lists : goal.returns-clause-lists
returns-clause-lists g c = c.loop-at.invariant.idle

pub returns-clause-cause : goal.returns-clause-cause
returns-clause-cause g c = no_disk_cause c.damaged-2.result _ _ _ _ c.damaged-2.ensures
    c.loop-at.invariant.faults
