use Rattle.std.proofs.Common.{◌≡◌, ◌∙◌, ℕ, List, ap, sym, Some}
use Rattle.ax_tree.specs.declared.tree.Tree.{Tree}
use Rattle.ax_tree.specs.Document.{document_id}
use Rattle.ax_storable.specs.Storable.{IsStorable}
use Rattle.ax_policy.specs.declared.policy.Policy.{Policy}
use Rattle.ax_container.proofs.Soundness.{MayBe, sound_created, sound_deleted, sound_replaced}
use Rattle.ax_container.proofs.Upserts.{upsert_keeps_soundness}
use Rattle.ax_container.proofs.Refusing.{insertion_keeps_soundness, exchange_keeps_soundness, removal_keeps_soundness}
use Rattle.ax_container.proofs.laws.a_write_keeps_soundness.Goals as goal

may_be : (id : List ℕ) (tree : Tree) (policy : Policy) → document_id tree ≡ Some id → IsStorable tree
    → MayBe id tree policy
may_be id tree policy doc storable = λ number own same. record { own_id = doc ∙ ap Some (sym same); storable = storable }

pub returns-clause-upsert : goal.returns-clause-upsert
returns-clause-upsert c = λ before after tree id doc storable.
    upsert_keeps_soundness before after id tree (may_be id tree before.policy doc storable)

pub returns-clause-insertion : goal.returns-clause-insertion
returns-clause-insertion c = λ before after tree id doc storable.
    insertion_keeps_soundness before after id tree (may_be id tree before.policy doc storable)

pub returns-clause-exchange : goal.returns-clause-exchange
returns-clause-exchange c = λ before after tree id doc storable.
    exchange_keeps_soundness before after id tree (may_be id tree before.policy doc storable)

pub returns-clause-removal : goal.returns-clause-removal
returns-clause-removal c = λ before after id. removal_keeps_soundness before after id

pub returns-clause-creation : goal.returns-clause-creation
returns-clause-creation c = λ before tree id doc storable absent space.
    sound_created id tree before absent space (may_be id tree before.policy doc storable)

pub returns-clause-replacement : goal.returns-clause-replacement
returns-clause-replacement c = λ before tree id doc storable.
    sound_replaced id tree before (may_be id tree before.policy doc storable)

pub returns-clause-deletion : goal.returns-clause-deletion
returns-clause-deletion c = λ before id. sound_deleted id before
