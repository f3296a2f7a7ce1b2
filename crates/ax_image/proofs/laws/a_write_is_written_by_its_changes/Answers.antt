use Rattle.std.proofs.Common.{◌≡◌, ℕ, List, sym, ap, ◌∙◌}
use Rattle.std.specs.Prelude.{Some}
use Rattle.ax_tree.specs.declared.tree.Tree.{Tree}
use Rattle.ax_tree.specs.Document.{document_id}
use Rattle.ax_storable.specs.Storable.{IsStorable}
use Rattle.ax_policy.specs.declared.policy.Policy.{Policy}
use Rattle.ax_container.proofs.Soundness.{MayBe}
use Rattle.ax_image.proofs.Writing.{created_by, deleted_by, replaced_by}
use Rattle.ax_image.proofs.laws.a_write_is_written_by_its_changes.Goals as goal

may_be : (id : List ℕ) (tree : Tree) (policy : Policy) → document_id tree ≡ Some id → IsStorable tree
    → MayBe id tree policy
may_be id tree policy doc storable = λ number own same. record { own_id = doc ∙ ap Some (sym same); storable = storable }

pub returns-clause-creation : goal.returns-clause-creation
returns-clause-creation c = λ contents before tree id plain hold doc storable absent space.
    created_by contents before hold id tree plain (may_be id tree before.policy doc storable) absent space

pub returns-clause-replacement : goal.returns-clause-replacement
returns-clause-replacement c = λ contents before tree id found plain hold doc storable is.
    replaced_by contents before hold id tree plain (may_be id tree before.policy doc storable) found is

pub returns-clause-deletion : goal.returns-clause-deletion
returns-clause-deletion c = λ contents before id found hold is. deleted_by contents before hold id found is
