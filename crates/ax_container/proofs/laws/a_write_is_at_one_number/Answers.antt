use Rattle.ax_container.proofs.Writing.{created_at, deleted_at, entry_there, replaced_at}
use Rattle.ax_container.proofs.laws.a_write_is_at_one_number.Goals as goal

pub returns-clause-creation : goal.returns-clause-creation
returns-clause-creation c = λ before tree id number sound. created_at before tree id number sound

pub returns-clause-replacement : goal.returns-clause-replacement
returns-clause-replacement c =
    λ before tree id found number sound is. replaced_at before tree id found number sound is

pub returns-clause-deletion : goal.returns-clause-deletion
returns-clause-deletion c = λ before id found number sound is. deleted_at before id found number sound is

pub returns-clause-found : goal.returns-clause-found
returns-clause-found c = λ before id found sound is. entry_there before id found sound is
