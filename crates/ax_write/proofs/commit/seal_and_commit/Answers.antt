-- The batch that is sealed has the parts of the batch; where it is not sealed, nothing has changed.
use Rattle.std.proofs.Common.{◌≡◌, Some, sym, subst}
use Rattle.ax_area.specs.Parts.{changes_said}
use Rattle.ax_store.specs.Batch.{AreAllowed}
use Rattle.ax_store.specs.Store.{store_contents}
use Rattle.ax_store.proofs.StoreLemmas.{agrees_says}
use Rattle.ax_write.proofs.Calls.{brief, fails_alone, unless_failed}
use Rattle.ax_write.proofs.Committing.{says_all, still_turns}
use Rattle.ax_write.proofs.commit.seal_and_commit.Goals as goal

pub commit-requires-clause-within : goal.commit-requires-clause-within
commit-requires-clause-within g c =
    subst (λ parts. AreAllowed parts (store_contents c.args.store.now)) (sym c.in-Ok.ensures.parts) c.requires.within

pub returns-in_default-clause-any_moment : goal.returns-in_default-clause-any_moment
returns-in_default-clause-any_moment g c = λ honest works version told changes new says said leads.
    let may = g.met.D.Disk.reads_may_stay c.args.disk.now (g.D.Disk.attached c.args.disk.now) honest in
    let of = agrees_says g.C.PageCache.pages c.args.store.now _ (c.requires.agrees honest works) in
    still_turns _ version told (store_contents c.args.store.now) _
    (says_all _ version of.version told of.told (store_contents c.args.store.now) may of.says says)

pub returns-clause-any_moment : goal.returns-clause-any_moment
returns-clause-any_moment g c = λ honest works version told changes new says said leads.
    c.commit.ensures.any_moment honest works version told changes new says
    (subst (λ parts. changes_said parts ≡ Some changes) (sym c.in-Ok.ensures.parts) said) leads

pub returns-clause-told : goal.returns-clause-told
returns-clause-told g c = λ honest works version told changes new says said leads.
    c.commit.ensures.told honest works version told changes new says
    (subst (λ parts. changes_said parts ≡ Some changes) (sym c.in-Ok.ensures.parts) said) leads

pub returns-clause-only : goal.returns-clause-only
returns-clause-only g c = brief c.commit.result c.commit.ensures.disk_alone

pub returns-clause-fails : goal.returns-clause-fails
returns-clause-fails g c =
    fails_alone c.commit.result _ _ c.commit.ensures.works c.commit.ensures.fails c.commit.ensures.failed_before c.commit.ensures.disk_alone

pub returns-clause-agrees : goal.returns-clause-agrees
returns-clause-agrees g c = λ honest works.
    unless_failed c.commit.result _ (c.commit.ensures.agrees honest) c.commit.ensures.fails works
