-- The bytes of the id are the id.
use Rattle.std.proofs.Common.{List, ℕ, None, ap, subst, ◌∙◌}
use Rattle.std.specs.Prelude.{OnOk}
use Rattle.ax_container.specs.Container.{contains}
use Rattle.ax_container.specs.Writes.{removed}
use Rattle.ax_store.specs.Store.{store_contents}
use Rattle.ax_write.specs.Learnt.{LearnsOfDeletion}
use Rattle.ax_write.specs.Small.{IsSmallBatch, IsToldHeld}
use Rattle.ax_write.specs.Writes.{MeetsHeld, TellsWrite}
use Rattle.ax_engine.proofs.engine.delete.Goals as goal

pub returns-clause-tells : goal.returns-clause-tells
returns-clause-tells g c = λ honest before holds.
    subst (λ (i : List ℕ). TellsWrite before (removed i before) c.delete.result c.delete.new.self.store c.delete.new.self.ids
    (g.D.Disk.history c.args.disk.now (g.D.Disk.attached c.args.disk.now))
    (g.D.Disk.history c.delete.new.disk (g.D.Disk.attached c.delete.new.disk)))
    (c.as_bytes-id.ensures.value ∙ c.as_str.ensures.text) (c.delete.ensures.tells honest before holds)

pub returns-clause-none : goal.returns-clause-none
returns-clause-none g c = λ honest before holds absent.
    c.delete.ensures.none honest before holds
    (ap (λ i. contains i before) (c.as_bytes-id.ensures.value ∙ c.as_str.ensures.text) ∙ absent)

pub returns-clause-met : goal.returns-clause-met
returns-clause-met g c = λ honest.
    subst (λ (i : List ℕ). MeetsHeld c.delete.result c.args.documents.now.ids i (store_contents c.args.documents.now.store))
    (c.as_bytes-id.ensures.value ∙ c.as_str.ensures.text) (c.delete.ensures.met honest)

pub returns-clause-small : goal.returns-clause-small
returns-clause-small g c =
    subst (λ (i : List ℕ). OnOk c.delete.result (IsSmallBatch
    (IsToldHeld (g.D.Disk.is_honest c.args.disk.now) c.args.documents.now.ids i (store_contents c.args.documents.now.store))
    (g.D.Disk.is_honest c.args.disk.now) c.args.documents.now.table None
    (store_contents c.args.documents.now.store) (store_contents c.delete.new.self.store)))
    (c.as_bytes-id.ensures.value ∙ c.as_str.ensures.text) c.delete.ensures.small

pub returns-clause-learns : goal.returns-clause-learns
returns-clause-learns g c =
    subst (λ (i : List ℕ). LearnsOfDeletion c.delete.result (g.D.Disk.is_honest c.args.disk.now) i
    (store_contents c.args.documents.now.store) c.args.documents.now.ids c.delete.new.self.ids)
    (c.as_bytes-id.ensures.value ∙ c.as_str.ensures.text) c.delete.ensures.learns
