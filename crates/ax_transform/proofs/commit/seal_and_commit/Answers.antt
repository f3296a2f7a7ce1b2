-- The batch that is sealed has the parts of the batch, and room for them changes nothing else; where it is not sealed, or there is
-- no room, nothing has changed.
use Rattle.std.proofs.Common.{sym, ap, ◌∙◌}
use Rattle.ax_area_laws.specs.Risen.{risen}
use Rattle.ax_store.proofs.StoreLemmas.{agrees_same, agrees_says}
use Rattle.ax_store.specs.Store.{store_contents}
use Rattle.ax_transform.proofs.Committing.{allowed_over, any_moment_over, tells_over}
use Rattle.ax_write.proofs.Committing.{says_all, still_turns}
use Rattle.ax_transform.proofs.commit.seal_and_commit.Goals as goal

pub returns-in_default-clause-any_moment : goal.returns-in_default-clause-any_moment
returns-in_default-clause-any_moment g c = λ honest works version told changes new says said leads.
    let may = g.met.D.Disk.reads_may_stay c.args.disk.now (g.D.Disk.attached c.args.disk.now) honest in
    let of = agrees_says g.C.PageCache.pages c.args.store.now _ (c.requires.agrees honest works) in
    still_turns _ version told (store_contents c.args.store.now) _
    (says_all _ version of.version told of.told (store_contents c.args.store.now) may of.says says)

pub returns-in_default-reserve-clause-any_moment : goal.returns-in_default-reserve-clause-any_moment
returns-in_default-reserve-clause-any_moment g c = λ honest works version told changes new says said leads.
    let may = g.met.D.Disk.reads_may_stay c.args.disk.now (g.D.Disk.attached c.args.disk.now) honest in
    let of = agrees_says g.C.PageCache.pages c.args.store.now _ (c.requires.agrees honest works) in
    still_turns _ version told (store_contents c.args.store.now) _
    (says_all _ version of.version told of.told (store_contents c.args.store.now) may of.says says)

pub returns-in_default-reserve-clause-agrees : goal.returns-in_default-reserve-clause-agrees
returns-in_default-reserve-clause-agrees g c = λ honest works.
    agrees_same g.C.PageCache.pages c.args.store.now c.reserve.new.self _ c.reserve.ensures.same
    (c.requires.agrees honest (sym c.reserve.ensures.same.failed ∙ works))

pub commit-requires-clause-agrees : goal.commit-requires-clause-agrees
commit-requires-clause-agrees g c = λ honest works.
    agrees_same g.C.PageCache.pages c.args.store.now c.reserve.new.self _ c.reserve.ensures.same
    (c.requires.agrees honest (sym c.reserve.ensures.same.failed ∙ works))

pub commit-requires-clause-within : goal.commit-requires-clause-within
commit-requires-clause-within g c =
    allowed_over _ _ (store_contents c.args.store.now) (store_contents c.reserve.new.self) (sym c.in-Ok.ensures.parts)
    (sym (ap risen c.reserve.ensures.same.contents)) c.requires.within

pub returns-clause-any_moment : goal.returns-clause-any_moment
returns-clause-any_moment g c = λ honest works.
    any_moment_over _ _ _ _ (store_contents c.args.store.now) (store_contents c.reserve.new.self) c.in-Ok.ensures.parts
    (ap risen c.reserve.ensures.same.contents) (c.commit.ensures.any_moment honest (c.reserve.ensures.same.failed ∙ works))

pub returns-clause-told : goal.returns-clause-told
returns-clause-told g c = λ honest works.
    tells_over (g.D.Disk.history c.args.disk.now (g.D.Disk.attached c.args.disk.now))
    (g.D.Disk.history c.commit.new.disk (g.D.Disk.attached c.commit.new.disk)) _ _ (store_contents c.args.store.now) (store_contents c.reserve.new.self) c.in-Ok.ensures.parts
    (ap risen c.reserve.ensures.same.contents) c.commit.result (c.commit.ensures.told honest (c.reserve.ensures.same.failed ∙ works))
