-- The store is opened as it stands, and then the texts of its policies are read.
use Rattle.std.proofs.Common.{IsTrue, sym, subst}
use Rattle.ax_area_laws.specs.Risen.{risen}
use Rattle.ax_store.proofs.OpenLemmas.{keeps_idle}
use Rattle.ax_store.specs.Kept.{Kept}
use Rattle.ax_store.specs.Store.{Has}
use Rattle.ax_documents.proofs.Opened.{have_table, holds_opened, never_answered, opened_rests, passed_on, readable_still, refuses_by, since_opening}
use Rattle.ax_documents.proofs.Opened.{since_reading, within_by}
use Rattle.ax_documents.proofs.Refusing.{table_refuses}
use Rattle.ax_documents.proofs.opening.open_documents.Goals as goal

pub returns-in-Err-clause-any_moment : goal.returns-in-Err-clause-any_moment
returns-in-Err-clause-any_moment g c = λ honest before store.
    since_opening _ _ before store (c.open_store.ensures.any_moment honest)

pub returns-in-Err-clause-refused : goal.returns-in-Err-clause-refused
returns-in-Err-clause-refused g c = λ honest.
    refuses_by _ _ c.in-Err.fault (c.in-Err.ensures.tells honest) (c.in-Err.ensures.refused honest)

pub returns-in-Err-clause-damaged_root : goal.returns-in-Err-clause-damaged_root
returns-in-Err-clause-damaged_root g c = λ honest at damaged.
    passed_on c.in-Err.fault _ (c.in-Err.ensures.damaged_root honest at damaged)

pub returns-in-Err-clause-newer : goal.returns-in-Err-clause-newer
returns-in-Err-clause-newer g c = λ honest version newer.
    passed_on c.in-Err.fault _ (c.in-Err.ensures.newer honest version newer)

pub returns-in-Err-read_table-clause-refused : goal.returns-in-Err-read_table-clause-refused
returns-in-Err-read_table-clause-refused g c = λ honest.
    let still = subst IsTrue (sym c.open_store.ensures.honest) honest in
    table_refuses _ _ _ c.in-Ok.store (c.in-Ok.ensures.tells honest) (c.open_store.ensures.unchanged honest)
    (g.met.D.Disk.reads_may_stay c.open_store.new.disk (g.D.Disk.attached c.open_store.new.disk) still)
    (c.read_table.ensures.reads.lists still)
    c.in-Err-read_table.fault (c.in-Err-read_table.ensures.told still c.in-Ok.ensures.works)

pub returns-in-Err-read_table-clause-any_moment : goal.returns-in-Err-read_table-clause-any_moment
returns-in-Err-read_table-clause-any_moment g c = λ honest before store.
    since_reading _ _ before _ (opened_rests _ _ before store (c.in-Ok.ensures.kept honest))
    (since_opening _ _ before store (c.open_store.ensures.any_moment honest))
    (c.read_table.ensures.reads.lists (subst IsTrue (sym c.open_store.ensures.honest) honest))

pub returns-in-Err-read_table-clause-unchanged : goal.returns-in-Err-read_table-clause-unchanged
returns-in-Err-read_table-clause-unchanged g c = λ honest not_fresh.
    keeps_idle _ _ _ (c.open_store.ensures.unchanged honest not_fresh)
    (c.read_table.ensures.reads.lists (subst IsTrue (sym c.open_store.ensures.honest) honest))

pub returns-in-Err-read_table-clause-damaged_root : goal.returns-in-Err-read_table-clause-damaged_root
returns-in-Err-read_table-clause-damaged_root g c = λ honest at damaged.
    never_answered c.in-Ok.store _ _ (c.in-Ok.ensures.damaged_root honest at damaged)

pub returns-in-Err-read_table-clause-newer : goal.returns-in-Err-read_table-clause-newer
returns-in-Err-read_table-clause-newer g c = λ honest version newer.
    never_answered c.in-Ok.store _ _ (c.in-Ok.ensures.newer honest version newer)

pub returns-in-Ok-make-clause-any_moment : goal.returns-in-Ok-make-clause-any_moment
returns-in-Ok-make-clause-any_moment g c = λ honest before store.
    since_reading _ _ before _ (opened_rests _ _ before store (c.in-Ok.ensures.kept honest))
    (since_opening _ _ before store (c.open_store.ensures.any_moment honest))
    (c.read_table.ensures.reads.lists (subst IsTrue (sym c.open_store.ensures.honest) honest))

pub returns-in-Ok-make-clause-unchanged : goal.returns-in-Ok-make-clause-unchanged
returns-in-Ok-make-clause-unchanged g c = λ honest not_fresh.
    keeps_idle _ _ _ (c.open_store.ensures.unchanged honest not_fresh)
    (c.read_table.ensures.reads.lists (subst IsTrue (sym c.open_store.ensures.honest) honest))

pub returns-in-Ok-make-clause-damaged_root : goal.returns-in-Ok-make-clause-damaged_root
returns-in-Ok-make-clause-damaged_root g c = λ honest at damaged.
    never_answered c.in-Ok.store _ _ (c.in-Ok.ensures.damaged_root honest at damaged)

pub returns-in-Ok-make-clause-newer : goal.returns-in-Ok-make-clause-newer
returns-in-Ok-make-clause-newer g c = λ honest version newer.
    never_answered c.in-Ok.store _ _ (c.in-Ok.ensures.newer honest version newer)

pub returns-in-Err-make-clause-any_moment : goal.returns-in-Err-make-clause-any_moment
returns-in-Err-make-clause-any_moment g c = λ honest before store.
    since_reading _ _ before _ (opened_rests _ _ before store (c.in-Ok.ensures.kept honest))
    (since_opening _ _ before store (c.open_store.ensures.any_moment honest))
    (c.read_table.ensures.reads.lists (subst IsTrue (sym c.open_store.ensures.honest) honest))

pub returns-in-Err-make-clause-unchanged : goal.returns-in-Err-make-clause-unchanged
returns-in-Err-make-clause-unchanged g c = λ honest not_fresh.
    keeps_idle _ _ _ (c.open_store.ensures.unchanged honest not_fresh)
    (c.read_table.ensures.reads.lists (subst IsTrue (sym c.open_store.ensures.honest) honest))

pub returns-in-Err-make-clause-damaged_root : goal.returns-in-Err-make-clause-damaged_root
returns-in-Err-make-clause-damaged_root g c = λ honest at damaged.
    never_answered c.in-Ok.store _ _ (c.in-Ok.ensures.damaged_root honest at damaged)

pub returns-in-Err-make-clause-newer : goal.returns-in-Err-make-clause-newer
returns-in-Err-make-clause-newer g c = λ honest version newer.
    never_answered c.in-Ok.store _ _ (c.in-Ok.ensures.newer honest version newer)

pub returns-in-Ok-make-clause-holds : goal.returns-in-Ok-make-clause-holds
returns-in-Ok-make-clause-holds g c = λ honest before store.
    holds_opened _ _ c.in-Ok.store before store (c.in-Ok.ensures.tells honest) c.read_table.new.store
    c.read_table.ensures.reads.same.pages c.in-Ok-make.ids c.in-Ok-make.ensures

pub returns-in-Ok-make-clause-readable : goal.returns-in-Ok-make-clause-readable
returns-in-Ok-make-clause-readable g c = λ honest before store.
    readable_still (g.D.Disk.history c.args.disk.now (g.D.Disk.attached c.args.disk.now)) _ before _
    (opened_rests _ _ before store (c.in-Ok.ensures.kept honest))
    (c.read_table.ensures.reads.lists (subst IsTrue (sym c.open_store.ensures.honest) honest))

pub returns-in-Ok-make-clause-opened : goal.returns-in-Ok-make-clause-opened
returns-in-Ok-make-clause-opened g c = λ honest.
    let still = subst IsTrue (sym c.open_store.ensures.honest) honest in
    within_by (c.in-Ok.ensures.tells honest).has
    (have_table _ _ _ still c.in-Ok-read_table.ensures.table (c.in-Ok-read_table.ensures.apart still))

pub returns-in-Ok-make-clause-says : goal.returns-in-Ok-make-clause-says
returns-in-Ok-make-clause-says g c = λ honest.
    subst (λ (kept : Kept). Has (risen kept.contents) (g.D.Disk.history c.args.disk.now (g.D.Disk.attached c.args.disk.now)).reads)
    (sym c.read_table.ensures.reads.same.pages) (c.in-Ok.ensures.tells honest).has
