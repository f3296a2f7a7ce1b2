use Rattle.std.proofs.Common.{inr, Err, sym, subst, refl}
use Rattle.std.specs.Prelude.{IsTrue}
use Rattle.ax_disk.specs.declared.extent.Extent.TheVariants.{Root}
use Rattle.ax_disk.specs.model.Image.{Image}
use Rattle.ax_log.specs.declared.fault.LogFault.TheVariants as by_log
use Rattle.ax_pages.specs.Area.{extent_number}
use Rattle.ax_store.specs.Store.{TellsFault}
use Rattle.ax_store.specs.declared.fault.StoreFault.{StoreFault}
use Rattle.ax_store.proofs.OpenLemmas.{keeps_idle, says_since, says_since_on, says_rest, load_opened, load_refused, load_keeps, refused_store}
use Rattle.ax_store.proofs.OpenAnswers.{damaged_exactly, log_answer, opened_known, opened_whole_root}
use Rattle.ax_store.proofs.store.Store.open_store.Goals as goal

pub returns-in-Err-clause-any_moment : goal.returns-in-Err-clause-any_moment
returns-in-Err-clause-any_moment g c = λ honest version told contents says.
    says_since version told contents _ says _ _ (c.open_log.ensures.any_moment honest)

pub returns-in-Ok-make-clause-tells : goal.returns-in-Ok-make-clause-tells
returns-in-Ok-make-clause-tells g c = λ honest.
    let opened = c.in-Ok.ensures.tells honest in
    let still = subst IsTrue (sym c.open_log.ensures.honest) honest in
    load_opened g.C.PageCache.pages _ _ _ _ opened (c.in-Ok-load.ensures.tells still opened.frames opened.agrees)
    (c.load.ensures.lists still) c.requires.empty refl

pub returns-in-Ok-make-clause-any_moment : goal.returns-in-Ok-make-clause-any_moment
returns-in-Ok-make-clause-any_moment g c = λ honest version told contents says.
    let opened = c.in-Ok.ensures.tells honest in
    let still = subst IsTrue (sym c.open_log.ensures.honest) honest in
    says_since_on version told contents _ says c.in-Ok.log _ _ opened (c.load.ensures.lists still) _ (c.open_log.ensures.any_moment honest)

pub returns-in-Ok-make-clause-kept : goal.returns-in-Ok-make-clause-kept
returns-in-Ok-make-clause-kept g c = λ honest version told contents says.
    let opened = c.in-Ok.ensures.tells honest in
    let still = subst IsTrue (sym c.open_log.ensures.honest) honest in
    says_rest version told contents _ says c.in-Ok.log _ _ opened (c.load.ensures.lists still)

pub returns-in-Err-load-clause-tells : goal.returns-in-Err-load-clause-tells
returns-in-Err-load-clause-tells g c = λ honest.
    let opened = c.in-Ok.ensures.tells honest in
    let still = subst IsTrue (sym c.open_log.ensures.honest) honest in
    load_refused c.in-Ok.log _ _ opened c.in-Err-load.fault (c.in-Err-load.ensures.tells still opened.frames opened.agrees)

pub returns-in-Err-load-clause-refused : goal.returns-in-Err-load-clause-refused
returns-in-Err-load-clause-refused g c = λ honest refused.
    let opened = c.in-Ok.ensures.tells honest in
    let still = subst IsTrue (sym c.open_log.ensures.honest) honest in
    load_keeps c.in-Err-load.fault c.in-Ok.log _ _ _ opened (c.in-Err-load.ensures.tells still opened.frames opened.agrees)
    (c.open_log.ensures.unchanged honest) (c.load.ensures.lists still) refused

pub returns-in-Err-load-clause-any_moment : goal.returns-in-Err-load-clause-any_moment
returns-in-Err-load-clause-any_moment g c = λ honest version told contents says.
    let opened = c.in-Ok.ensures.tells honest in
    let still = subst IsTrue (sym c.open_log.ensures.honest) honest in
    says_since_on version told contents _ says c.in-Ok.log _ _ opened (c.load.ensures.lists still) _ (c.open_log.ensures.any_moment honest)

pub returns-in-Err-make-clause-any_moment : goal.returns-in-Err-make-clause-any_moment
returns-in-Err-make-clause-any_moment g c = λ honest version told contents says.
    let opened = c.in-Ok.ensures.tells honest in
    let still = subst IsTrue (sym c.open_log.ensures.honest) honest in
    says_since_on version told contents _ says c.in-Ok.log _ _ opened (c.load.ensures.lists still) _ (c.open_log.ensures.any_moment honest)

pub returns-in-Ok-make-clause-unchanged : goal.returns-in-Ok-make-clause-unchanged
returns-in-Ok-make-clause-unchanged g c = λ honest not_fresh.
    keeps_idle _ _ _ (c.open_log.ensures.unchanged honest not_fresh)
    (c.load.ensures.lists (subst IsTrue (sym c.open_log.ensures.honest) honest))

pub returns-in-Err-load-clause-unchanged : goal.returns-in-Err-load-clause-unchanged
returns-in-Err-load-clause-unchanged g c = λ honest not_fresh.
    keeps_idle _ _ _ (c.open_log.ensures.unchanged honest not_fresh)
    (c.load.ensures.lists (subst IsTrue (sym c.open_log.ensures.honest) honest))

pub returns-in-Err-make-clause-unchanged : goal.returns-in-Err-make-clause-unchanged
returns-in-Err-make-clause-unchanged g c = λ honest not_fresh.
    keeps_idle _ _ _ (c.open_log.ensures.unchanged honest not_fresh)
    (c.load.ensures.lists (subst IsTrue (sym c.open_log.ensures.honest) honest))

pub returns-in-Err-clause-tells : goal.returns-in-Err-clause-tells
returns-in-Err-clause-tells g c = λ honest.
    let before : Image = (g.D.Disk.history c.args.disk.now (g.D.Disk.attached c.args.disk.now)).reads in
    subst (λ (fault : StoreFault). TellsFault fault before) (sym c.store_fault.ensures)
    (refused_store c.in-Err.fault before _ (c.in-Err.ensures.tells honest))

pub returns-in-Err-clause-damaged : goal.returns-in-Err-clause-damaged
returns-in-Err-clause-damaged g c = λ honest ext at damaged.
    let history = g.D.Disk.history c.open_log.new.disk (g.D.Disk.attached c.open_log.new.disk) in
    damaged_exactly g.C.PageCache.pages (Err c.store_fault.result) _ history ext at damaged
    (returns-in-Err-clause-tells g c honest)

pub returns-in-Err-clause-damaged_root : goal.returns-in-Err-clause-damaged_root
returns-in-Err-clause-damaged_root g c = λ honest at damaged.
    log_answer c.in-Err.fault (by_log.Damaged (extent_number Root) at) c.store_fault.result c.store_fault.ensures
    (c.in-Err.ensures.damaged_root honest at damaged)

pub returns-in-Err-clause-newer : goal.returns-in-Err-clause-newer
returns-in-Err-clause-newer g c = λ honest version newer.
    log_answer c.in-Err.fault (by_log.Newer version) c.store_fault.result c.store_fault.ensures
    (c.in-Err.ensures.newer honest version newer)

pub returns-in-Ok-make-clause-damaged : goal.returns-in-Ok-make-clause-damaged
returns-in-Ok-make-clause-damaged g c = λ honest ext at damaged.
    damaged_exactly g.C.PageCache.pages _ _ _ ext at damaged (returns-in-Ok-make-clause-tells g c honest)

pub returns-in-Ok-make-clause-damaged_root : goal.returns-in-Ok-make-clause-damaged_root
returns-in-Ok-make-clause-damaged_root g c = λ honest at damaged.
    absurd (opened_whole_root c.in-Ok.log _ _ (c.in-Ok.ensures.tells honest) at damaged)

pub returns-in-Ok-make-clause-newer : goal.returns-in-Ok-make-clause-newer
returns-in-Ok-make-clause-newer g c = λ honest version newer.
    absurd (opened_known c.in-Ok.log _ _ (c.in-Ok.ensures.tells honest) version newer)

pub returns-in-Err-load-clause-damaged : goal.returns-in-Err-load-clause-damaged
returns-in-Err-load-clause-damaged g c = λ honest ext at damaged.
    let history = g.D.Disk.history c.load.new.disk (g.D.Disk.attached c.load.new.disk) in
    damaged_exactly g.C.PageCache.pages (Err c.in-Err-load.fault) _ history ext at damaged
    (returns-in-Err-load-clause-tells g c honest)

pub returns-in-Err-load-clause-damaged_root : goal.returns-in-Err-load-clause-damaged_root
returns-in-Err-load-clause-damaged_root g c = λ honest at damaged.
    absurd (opened_whole_root c.in-Ok.log _ _ (c.in-Ok.ensures.tells honest) at damaged)

pub returns-in-Err-load-clause-newer : goal.returns-in-Err-load-clause-newer
returns-in-Err-load-clause-newer g c = λ honest version newer.
    absurd (opened_known c.in-Ok.log _ _ (c.in-Ok.ensures.tells honest) version newer)

pub returns-in-Err-make-clause-damaged : goal.returns-in-Err-make-clause-damaged
returns-in-Err-make-clause-damaged g c = λ honest ext at damaged. inr (inr refl)

pub returns-in-Err-make-clause-damaged_root : goal.returns-in-Err-make-clause-damaged_root
returns-in-Err-make-clause-damaged_root g c = λ honest at damaged.
    absurd (opened_whole_root c.in-Ok.log _ _ (c.in-Ok.ensures.tells honest) at damaged)

pub returns-in-Err-make-clause-newer : goal.returns-in-Err-make-clause-newer
returns-in-Err-make-clause-newer g c = λ honest version newer.
    absurd (opened_known c.in-Ok.log _ _ (c.in-Ok.ensures.tells honest) version newer)
