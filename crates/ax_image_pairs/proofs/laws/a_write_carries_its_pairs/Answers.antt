use Rattle.ax_image_pairs.proofs.Carried.{creation, deletion, replacement}
use Rattle.ax_image_pairs.proofs.laws.a_write_carries_its_pairs.Goals as goal

pub returns-clause-creation : goal.returns-clause-creation
returns-clause-creation c = λ contents before tree id changes plain hold own storable absent space changed.
    creation contents before hold tree id changes plain own storable absent space changed

pub returns-clause-replacement : goal.returns-clause-replacement
returns-clause-replacement c = λ contents before tree id found changes plain hold own storable is changed.
    replacement contents before hold id found is tree changes plain own storable changed

pub returns-clause-deletion : goal.returns-clause-deletion
returns-clause-deletion c = λ contents before id found changes hold is changed.
    deletion contents before hold id found is changes changed
