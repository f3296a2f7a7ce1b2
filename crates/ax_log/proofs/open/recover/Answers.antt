use Rattle.std.proofs.Common.{◌∙◌, subst}
use Rattle.ax_disk.specs.laws.StaysLaws.{idles_join}
use Rattle.ax_area.specs.declared.root.RootChoice.{RootChoice}
use Rattle.ax_area.specs.Root.{IsRoot}
use Rattle.ax_log.proofs.OpenSteps.{forming_stays, forming_still, frames_stay, frames_stay_on, fresh_frames_stay}
use Rattle.ax_log.proofs.open.recover.Goals as goal

pub returns-in_default-clause-any_moment : goal.returns-in_default-clause-any_moment
returns-in_default-clause-any_moment g c = λ honest frames has.
    frames_stay _ _ (c.requires.settled honest) (c.read_root.ensures.lists honest) frames has

pub returns-in-Newer-clause-any_moment :
    goal.returns-in-Newer-clause-any_moment
returns-in-Newer-clause-any_moment g c = λ honest frames has.
    frames_stay _ _ (c.requires.settled honest) (c.read_root.ensures.lists honest) frames has

pub returns-in-Damaged-clause-any_moment : goal.returns-in-Damaged-clause-any_moment
returns-in-Damaged-clause-any_moment g c = λ honest frames has.
    frames_stay _ _ (c.requires.settled honest) (c.read_root.ensures.lists honest) frames has

pub returns-in-Fresh-clause-unchanged : goal.returns-in-Fresh-clause-unchanged
returns-in-Fresh-clause-unchanged g c = λ honest not_fresh.
    let root = (g.D.Disk.history c.args.disk.now (g.D.Disk.attached c.args.disk.now)).reads.root in
    absurd (not_fresh (subst (λ (choice : RootChoice). IsRoot root choice) c.in-Fresh.is
    (c.in-Ok.ensures.is honest)))

pub returns-in-Fresh-clause-any_moment : goal.returns-in-Fresh-clause-any_moment
returns-in-Fresh-clause-any_moment g c = λ honest frames has.
    let root = (g.D.Disk.history c.args.disk.now (g.D.Disk.attached c.args.disk.now)).reads.root in
    let fresh = subst (λ (choice : RootChoice). IsRoot root choice) c.in-Fresh.is
    (c.in-Ok.ensures.is honest) in
    fresh_frames_stay _ _ (c.requires.settled honest)
    (c.read_root.ensures.lists honest) _ frames has fresh
    (c.form_log.ensures.any_moment (c.read_root.ensures.honest ∙ honest))

pub returns-in-Known-clause-unchanged :
    goal.returns-in-Known-clause-unchanged
returns-in-Known-clause-unchanged g c = λ honest not_fresh.
    idles_join _ _ _ (c.read_root.ensures.lists honest)
    (c.find_log.ensures.lists (c.read_root.ensures.honest ∙ honest))

pub returns-in-Known-clause-refused :
    goal.returns-in-Known-clause-refused
returns-in-Known-clause-refused g c = λ honest refused.
    idles_join _ _ _ (c.read_root.ensures.lists honest)
    (c.find_log.ensures.lists (c.read_root.ensures.honest ∙ honest))

pub returns-in-Known-clause-any_moment :
    goal.returns-in-Known-clause-any_moment
returns-in-Known-clause-any_moment g c = λ honest frames has.
    frames_stay_on _ _ (c.requires.settled honest) (c.read_root.ensures.lists honest) _ frames has
    (c.find_log.ensures.lists (c.read_root.ensures.honest ∙ honest))

pub returns-in_default-clause-forming : goal.returns-in_default-clause-forming
returns-in_default-clause-forming g c = λ honest fresh.
    forming_still _ _ (c.requires.settled honest) (c.read_root.ensures.lists honest) fresh

pub returns-in-Newer-clause-forming : goal.returns-in-Newer-clause-forming
returns-in-Newer-clause-forming g c = λ honest fresh.
    forming_still _ _ (c.requires.settled honest) (c.read_root.ensures.lists honest) fresh

pub returns-in-Damaged-clause-forming : goal.returns-in-Damaged-clause-forming
returns-in-Damaged-clause-forming g c = λ honest fresh.
    forming_still _ _ (c.requires.settled honest) (c.read_root.ensures.lists honest) fresh

pub returns-in-Fresh-clause-forming : goal.returns-in-Fresh-clause-forming
returns-in-Fresh-clause-forming g c = λ honest fresh.
    forming_stays _ _ (c.requires.settled honest) (c.read_root.ensures.lists honest) _ fresh
    (c.form_log.ensures.any_moment (c.read_root.ensures.honest ∙ honest))
