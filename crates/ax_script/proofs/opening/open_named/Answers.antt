-- The store of the name is attached, and then opened.
use Rattle.std.proofs.Common.{IsTrue, sym, subst}
use Rattle.ax_area.specs.Image.{IsDamaged, IsNewer}
use Rattle.ax_disk.specs.declared.extent.Extent.TheVariants.{Root}
use Rattle.ax_disk.specs.model.Image.{Image}
use Rattle.ax_image.specs.Readable.{newest}
use Rattle.ax_pages.specs.Area.{extent_number}
use Rattle.ax_store.specs.declared.fault.StoreFault.{StoreFault}
use Rattle.ax_store.specs.declared.fault.StoreFault.TheVariants as fault
use Rattle.ax_documents.specs.Opening.{IsImageOf}
use Rattle.ax_engine.proofs.Opened.{idle_since}
use Rattle.ax_engine.specs.Course.{IsOpenedFrom, standing_of}
use Rattle.ax_script.specs.Opening.{IsEndUnlessDisk}
use Rattle.ax_script.specs.declared.status.Status.TheVariants as status
use Rattle.ax_script.proofs.Attached.{image_named, image_there, not_opened, other_refused, since_named, status_of, store_there}
use Rattle.ax_script.proofs.Attached.{told_refused, within_named}
use Rattle.ax_script.proofs.opening.open_named.Goals as goal

pub returns-in_default-clause-any_moment : goal.returns-in_default-clause-any_moment
returns-in_default-clause-any_moment g c = λ honest before store.
    idle_since _ _ (IsImageOf before) (c.attach.ensures.lists honest (g.D.Disk.store_named c.args.name.now))

pub returns-in-Ok-open_engine-clause-holds : goal.returns-in-Ok-open_engine-clause-holds
returns-in-Ok-open_engine-clause-holds g c = λ honest before store.
    c.in-Ok-open_engine.ensures.holds (subst IsTrue (sym c.in-Ok.ensures.honest) honest) before
    (store_there (g.D.Disk.history c.args.disk.now) (g.D.Disk.history c.attach.new.self)
    (g.D.Disk.history c.open_engine.new.disk) (g.D.Disk.store_named c.args.name.now) _ _ c.in-Ok.ensures.attached
    c.open_engine.ensures.attached (c.in-Ok.ensures.lists honest (g.D.Disk.store_named c.args.name.now)) before store)

pub returns-in-Ok-open_engine-clause-any_moment : goal.returns-in-Ok-open_engine-clause-any_moment
returns-in-Ok-open_engine-clause-any_moment g c = λ honest before store.
    let idle = c.in-Ok.ensures.lists honest (g.D.Disk.store_named c.args.name.now) in
    since_named (g.D.Disk.history c.args.disk.now) (g.D.Disk.history c.attach.new.self)
    (g.D.Disk.history c.open_engine.new.disk) (g.D.Disk.store_named c.args.name.now) _ _ c.in-Ok.ensures.attached
    c.open_engine.ensures.attached idle before
    (c.open_engine.ensures.any_moment (subst IsTrue (sym c.in-Ok.ensures.honest) honest) before
    (store_there (g.D.Disk.history c.args.disk.now) (g.D.Disk.history c.attach.new.self)
    (g.D.Disk.history c.open_engine.new.disk) (g.D.Disk.store_named c.args.name.now) _ _ c.in-Ok.ensures.attached
    c.open_engine.ensures.attached idle before store))

pub returns-in-Err-Disk-clause-any_moment : goal.returns-in-Err-Disk-clause-any_moment
returns-in-Err-Disk-clause-any_moment g c = λ honest before store.
    let idle = c.in-Ok.ensures.lists honest (g.D.Disk.store_named c.args.name.now) in
    since_named (g.D.Disk.history c.args.disk.now) (g.D.Disk.history c.attach.new.self)
    (g.D.Disk.history c.open_engine.new.disk) (g.D.Disk.store_named c.args.name.now) _ _ c.in-Ok.ensures.attached
    c.open_engine.ensures.attached idle before
    (c.open_engine.ensures.any_moment (subst IsTrue (sym c.in-Ok.ensures.honest) honest) before
    (store_there (g.D.Disk.history c.args.disk.now) (g.D.Disk.history c.attach.new.self)
    (g.D.Disk.history c.open_engine.new.disk) (g.D.Disk.store_named c.args.name.now) _ _ c.in-Ok.ensures.attached
    c.open_engine.ensures.attached idle before store))

pub returns-in-Err-Damaged-clause-any_moment : goal.returns-in-Err-Damaged-clause-any_moment
returns-in-Err-Damaged-clause-any_moment g c = λ honest before store.
    let idle = c.in-Ok.ensures.lists honest (g.D.Disk.store_named c.args.name.now) in
    since_named (g.D.Disk.history c.args.disk.now) (g.D.Disk.history c.attach.new.self)
    (g.D.Disk.history c.open_engine.new.disk) (g.D.Disk.store_named c.args.name.now) _ _ c.in-Ok.ensures.attached
    c.open_engine.ensures.attached idle before
    (c.open_engine.ensures.any_moment (subst IsTrue (sym c.in-Ok.ensures.honest) honest) before
    (store_there (g.D.Disk.history c.args.disk.now) (g.D.Disk.history c.attach.new.self)
    (g.D.Disk.history c.open_engine.new.disk) (g.D.Disk.store_named c.args.name.now) _ _ c.in-Ok.ensures.attached
    c.open_engine.ensures.attached idle before store))

pub returns-in-Err-Memory-clause-any_moment : goal.returns-in-Err-Memory-clause-any_moment
returns-in-Err-Memory-clause-any_moment g c = λ honest before store.
    let idle = c.in-Ok.ensures.lists honest (g.D.Disk.store_named c.args.name.now) in
    since_named (g.D.Disk.history c.args.disk.now) (g.D.Disk.history c.attach.new.self)
    (g.D.Disk.history c.open_engine.new.disk) (g.D.Disk.store_named c.args.name.now) _ _ c.in-Ok.ensures.attached
    c.open_engine.ensures.attached idle before
    (c.open_engine.ensures.any_moment (subst IsTrue (sym c.in-Ok.ensures.honest) honest) before
    (store_there (g.D.Disk.history c.args.disk.now) (g.D.Disk.history c.attach.new.self)
    (g.D.Disk.history c.open_engine.new.disk) (g.D.Disk.store_named c.args.name.now) _ _ c.in-Ok.ensures.attached
    c.open_engine.ensures.attached idle before store))

pub returns-in-Ok-open_engine-clause-opened : goal.returns-in-Ok-open_engine-clause-opened
returns-in-Ok-open_engine-clause-opened g c = λ honest.
    within_named (g.D.Disk.history c.args.disk.now) (g.D.Disk.history c.attach.new.self)
    (g.D.Disk.history c.open_engine.new.disk) (g.D.Disk.store_named c.args.name.now) _ _ c.in-Ok.ensures.attached
    c.open_engine.ensures.attached (c.in-Ok.ensures.lists honest (g.D.Disk.store_named c.args.name.now))
    (c.in-Ok-open_engine.ensures.opened (subst IsTrue (sym c.in-Ok.ensures.honest) honest))

pub returns-in-Ok-open_engine-clause-begins : goal.returns-in-Ok-open_engine-clause-begins
returns-in-Ok-open_engine-clause-begins g c = λ honest.
    image_named (g.D.Disk.history c.args.disk.now) (g.D.Disk.history c.attach.new.self)
    (g.D.Disk.history c.open_engine.new.disk) (g.D.Disk.store_named c.args.name.now) _ _ c.in-Ok.ensures.attached
    c.open_engine.ensures.attached (c.in-Ok.ensures.lists honest (g.D.Disk.store_named c.args.name.now))
    (λ (image : Image). IsOpenedFrom image (standing_of c.in-Ok-open_engine.engine.documents))
    (c.in-Ok-open_engine.ensures.begins (subst IsTrue (sym c.in-Ok.ensures.honest) honest))

-- ---- a store with a damaged root or of a later version

pub returns-in-Ok-open_engine-clause-damaged_root : goal.returns-in-Ok-open_engine-clause-damaged_root
returns-in-Ok-open_engine-clause-damaged_root g c = λ honest at has.
    not_opened _ (fault.Damaged (extent_number Root) at)
    (c.in-Ok-open_engine.ensures.damaged_root (subst IsTrue (sym c.in-Ok.ensures.honest) honest) at
    (image_there (g.D.Disk.history c.args.disk.now) (g.D.Disk.history c.attach.new.self)
    (g.D.Disk.history c.open_engine.new.disk) (g.D.Disk.store_named c.args.name.now) _ _ c.in-Ok.ensures.attached
    c.open_engine.ensures.attached (c.in-Ok.ensures.lists honest (g.D.Disk.store_named c.args.name.now))
    (λ (image : Image). IsDamaged newest image Root at) has))

pub returns-in-Err-Damaged-clause-damaged_root : goal.returns-in-Err-Damaged-clause-damaged_root
returns-in-Err-Damaged-clause-damaged_root g c = λ honest at has.
    subst (λ (found : StoreFault). IsEndUnlessDisk (status.Damaged (extent_number Root) at) (status_of found))
    c.in-Err-Damaged.field-0-is
    (told_refused (fault.Damaged (extent_number Root) at) c.in-Err-Damaged.field-0
    (c.in-Err-Damaged.ensures.damaged_root (subst IsTrue (sym c.in-Ok.ensures.honest) honest) at
    (image_there (g.D.Disk.history c.args.disk.now) (g.D.Disk.history c.attach.new.self)
    (g.D.Disk.history c.open_engine.new.disk) (g.D.Disk.store_named c.args.name.now) _ _ c.in-Ok.ensures.attached
    c.open_engine.ensures.attached (c.in-Ok.ensures.lists honest (g.D.Disk.store_named c.args.name.now))
    (λ (image : Image). IsDamaged newest image Root at) has)))

pub returns-in-Err-Newer-clause-damaged_root : goal.returns-in-Err-Newer-clause-damaged_root
returns-in-Err-Newer-clause-damaged_root g c = λ honest at has.
    absurd (other_refused (fault.Damaged (extent_number Root) at) c.in-Err-Newer.field-0 _ c.in-Err-Newer.field-0-is (λ e. cc)
    (λ e. cc)
    (c.in-Err-Newer.ensures.damaged_root (subst IsTrue (sym c.in-Ok.ensures.honest) honest) at
    (image_there (g.D.Disk.history c.args.disk.now) (g.D.Disk.history c.attach.new.self)
    (g.D.Disk.history c.open_engine.new.disk) (g.D.Disk.store_named c.args.name.now) _ _ c.in-Ok.ensures.attached
    c.open_engine.ensures.attached (c.in-Ok.ensures.lists honest (g.D.Disk.store_named c.args.name.now))
    (λ (image : Image). IsDamaged newest image Root at) has)))

pub returns-in-Err-Memory-clause-damaged_root : goal.returns-in-Err-Memory-clause-damaged_root
returns-in-Err-Memory-clause-damaged_root g c = λ honest at has.
    absurd (other_refused (fault.Damaged (extent_number Root) at) c.in-Err-Memory.field-0 _ c.in-Err-Memory.field-0-is (λ e. cc)
    (λ e. cc)
    (c.in-Err-Memory.ensures.damaged_root (subst IsTrue (sym c.in-Ok.ensures.honest) honest) at
    (image_there (g.D.Disk.history c.args.disk.now) (g.D.Disk.history c.attach.new.self)
    (g.D.Disk.history c.open_engine.new.disk) (g.D.Disk.store_named c.args.name.now) _ _ c.in-Ok.ensures.attached
    c.open_engine.ensures.attached (c.in-Ok.ensures.lists honest (g.D.Disk.store_named c.args.name.now))
    (λ (image : Image). IsDamaged newest image Root at) has)))

pub returns-in-Ok-open_engine-clause-newer : goal.returns-in-Ok-open_engine-clause-newer
returns-in-Ok-open_engine-clause-newer g c = λ honest version has.
    not_opened _ (fault.Newer version)
    (c.in-Ok-open_engine.ensures.newer (subst IsTrue (sym c.in-Ok.ensures.honest) honest) version
    (image_there (g.D.Disk.history c.args.disk.now) (g.D.Disk.history c.attach.new.self)
    (g.D.Disk.history c.open_engine.new.disk) (g.D.Disk.store_named c.args.name.now) _ _ c.in-Ok.ensures.attached
    c.open_engine.ensures.attached (c.in-Ok.ensures.lists honest (g.D.Disk.store_named c.args.name.now))
    (λ (image : Image). IsNewer newest version image) has))

pub returns-in-Err-Damaged-clause-newer : goal.returns-in-Err-Damaged-clause-newer
returns-in-Err-Damaged-clause-newer g c = λ honest version has.
    absurd (other_refused (fault.Newer version) c.in-Err-Damaged.field-0 _ c.in-Err-Damaged.field-0-is (λ e. cc)
    (λ e. cc)
    (c.in-Err-Damaged.ensures.newer (subst IsTrue (sym c.in-Ok.ensures.honest) honest) version
    (image_there (g.D.Disk.history c.args.disk.now) (g.D.Disk.history c.attach.new.self)
    (g.D.Disk.history c.open_engine.new.disk) (g.D.Disk.store_named c.args.name.now) _ _ c.in-Ok.ensures.attached
    c.open_engine.ensures.attached (c.in-Ok.ensures.lists honest (g.D.Disk.store_named c.args.name.now))
    (λ (image : Image). IsNewer newest version image) has)))

pub returns-in-Err-Memory-clause-newer : goal.returns-in-Err-Memory-clause-newer
returns-in-Err-Memory-clause-newer g c = λ honest version has.
    absurd (other_refused (fault.Newer version) c.in-Err-Memory.field-0 _ c.in-Err-Memory.field-0-is (λ e. cc)
    (λ e. cc)
    (c.in-Err-Memory.ensures.newer (subst IsTrue (sym c.in-Ok.ensures.honest) honest) version
    (image_there (g.D.Disk.history c.args.disk.now) (g.D.Disk.history c.attach.new.self)
    (g.D.Disk.history c.open_engine.new.disk) (g.D.Disk.store_named c.args.name.now) _ _ c.in-Ok.ensures.attached
    c.open_engine.ensures.attached (c.in-Ok.ensures.lists honest (g.D.Disk.store_named c.args.name.now))
    (λ (image : Image). IsNewer newest version image) has)))
