-- The codes of an entry and a container, by which proofs tell them apart: those of the tuples of
-- their fields. A type that contracts see as an entry or a container cites them; no clause does.
use Rattle.std.specs.Prelude.{ℕ, List, refl}
use Rattle.std.specs.Coded.{Coded, code_by, coded×, coded_list, coded_ℕ}
use Rattle.ax_tree.specs.declared.tree.Tree.{Tree}
use Rattle.ax_tree.specs.contracts.tree.Tree as tree
use Rattle.ax_policy.specs.declared.policy.Policy.{Policy}
use Rattle.ax_policy.specs.contracts.policy.Policy as policy
use Rattle.ax_container.specs.Container.{Entry, Container}

abbrev pub entry_code : Coded Entry
entry_code =
    code_by (ℕ × (List ℕ × (Tree × Policy)))
    (coded× coded_ℕ (coded× (coded_list coded_ℕ) (coded× tree.the_row.coded policy.the_row.coded)))
    (λ entry. (entry.number, (entry.id, (entry.tree, entry.indexed_by))))
    (λ fields. record { number = fields.0; id = fields.1.0; tree = fields.1.1.0; indexed_by = fields.1.1.1 }) (λ _. refl)

abbrev pub container_code : Coded Container
container_code =
    code_by (List Entry × (ℕ × Policy))
    (coded× (coded_list entry_code) (coded× coded_ℕ policy.the_row.coded))
    (λ container. (container.entries, (container.next_number, container.policy)))
    (λ fields. record { entries = fields.0; next_number = fields.1.0; policy = fields.1.1 }) (λ _. refl)
