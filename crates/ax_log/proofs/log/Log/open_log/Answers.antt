use Rattle.std.proofs.Common.{inl, inr, refl, sym, ◌∙◌, subst}
use Rattle.ax_disk.specs.declared.extent.Extent.TheVariants.{Root}
use Rattle.ax_disk.specs.model.Image.{Image}
use Rattle.ax_disk.specs.laws.StageLaws.{barrier_fails, barrier_passed}
use Rattle.ax_pages.specs.declared.numbers.TheConstants.{NEWEST_VERSION}
use Rattle.ax_area.specs.Image.{IsFresh, IsBrokenImage, IsNewer, HasFrames}
use Rattle.ax_log.specs.Forming.{IsForming}
use Rattle.ax_log.specs.OpeningLaws.{damaged_exactly, damaged_root_exactly, newer_exactly}
use Rattle.ax_log.proofs.OpenSteps.{sync_keeps_on}
use Rattle.ax_log.proofs.log.Log.open_log.Goals as goal

pub returns-in_default-clause-any_moment : goal.returns-in_default-clause-any_moment
returns-in_default-clause-any_moment g c = λ honest frames has.
    let stays = g.met.D.Disk.reads_may_stay c.args.disk.now
    (g.D.Disk.attached c.args.disk.now) honest in
    barrier_fails c.in_default.field-0 _ _ (HasFrames NEWEST_VERSION frames) stays
    (c.in_default.ensures.lists honest)

pub returns-clause-unchanged : goal.returns-clause-unchanged
returns-clause-unchanged g c = λ honest not_fresh.
    let stays = g.met.D.Disk.reads_may_stay c.args.disk.now
    (g.D.Disk.attached c.args.disk.now) honest in
    let sync = c.sync.ensures.lists honest in
    let not_fresh_now : IsFresh (g.D.Disk.history c.sync.new.self
    (g.D.Disk.attached c.sync.new.self)).reads → ⊥ =
    λ fresh. not_fresh (subst (λ (i : Image). IsFresh i) sync.reads fresh) in
    sync_keeps_on _ _ stays c.sync.result _ sync
    (c.recover.ensures.unchanged (c.sync.ensures.honest ∙ honest) not_fresh_now)

pub returns-clause-refused : goal.returns-clause-refused
returns-clause-refused g c = λ honest refused.
    let stays = g.met.D.Disk.reads_may_stay c.args.disk.now
    (g.D.Disk.attached c.args.disk.now) honest in
    sync_keeps_on _ _ stays c.sync.result _ (c.sync.ensures.lists honest)
    (c.recover.ensures.refused (c.sync.ensures.honest ∙ honest) refused)

pub returns-clause-any_moment : goal.returns-clause-any_moment
returns-clause-any_moment g c = λ honest frames has.
    let sync = c.in-Ok.ensures.lists honest in
    let has_now = subst (λ (i : Image). HasFrames NEWEST_VERSION frames i) (sym sync.reads) has in
    barrier_passed c.in-Ok.field-0 _ _ _ (HasFrames NEWEST_VERSION frames) sync
    (c.recover.ensures.any_moment (c.sync.ensures.honest ∙ honest) frames has_now)

pub returns-clause-damaged : goal.returns-clause-damaged
returns-clause-damaged g c = λ honest ext at damaged.
    let same = (c.sync.ensures.lists honest).reads in
    damaged_exactly c.recover.result _ _ ext at
    (subst (λ (i : Image). IsBrokenImage NEWEST_VERSION i ext at) (sym same) damaged)
    (c.recover.ensures.tells (c.sync.ensures.honest ∙ honest))

pub returns-clause-damaged_root : goal.returns-clause-damaged_root
returns-clause-damaged_root g c = λ honest at damaged.
    let same = (c.sync.ensures.lists honest).reads in
    damaged_root_exactly c.recover.result _ _ at
    (subst (λ (i : Image). IsBrokenImage NEWEST_VERSION i Root at) (sym same) damaged)
    (c.recover.ensures.tells (c.sync.ensures.honest ∙ honest))

pub returns-clause-newer : goal.returns-clause-newer
returns-clause-newer g c = λ honest version newer.
    let same = (c.sync.ensures.lists honest).reads in
    newer_exactly c.recover.result _ _ version
    (subst (λ (i : Image). IsNewer NEWEST_VERSION version i) (sym same) newer)
    (c.recover.ensures.tells (c.sync.ensures.honest ∙ honest))

pub returns-in_default-clause-damaged : goal.returns-in_default-clause-damaged
returns-in_default-clause-damaged g c = λ honest ext at damaged. inr (inl refl)

pub returns-in_default-clause-damaged_root : goal.returns-in_default-clause-damaged_root
returns-in_default-clause-damaged_root g c = λ honest at damaged. inr refl

pub returns-in_default-clause-newer : goal.returns-in_default-clause-newer
returns-in_default-clause-newer g c = λ honest version newer. inr refl

pub returns-in_default-clause-forming : goal.returns-in_default-clause-forming
returns-in_default-clause-forming g c = λ honest fresh.
    let stays = g.met.D.Disk.reads_may_stay c.args.disk.now
    (g.D.Disk.attached c.args.disk.now) honest in
    barrier_fails c.in_default.field-0 _ _ IsForming stays (c.in_default.ensures.lists honest)

pub returns-clause-forming : goal.returns-clause-forming
returns-clause-forming g c = λ honest fresh.
    let sync = c.in-Ok.ensures.lists honest in
    let fresh_now = subst (λ (i : Image). IsFresh i) (sym sync.reads) fresh in
    barrier_passed c.in-Ok.field-0 _ _ _ IsForming sync
    (c.recover.ensures.forming (c.sync.ensures.honest ∙ honest) fresh_now)
