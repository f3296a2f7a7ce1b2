-- That a table of policies has no other in use or now than a container has: the policy now, and those by which its
-- documents are indexed. `AreInUse` of ax_skips says that it has each of the latter.
-- It is this project's own; it comes from no public document.
use Rattle.std.specs.List.{Contains}
use Rattle.ax_policy.specs.Table.{Table}
use Rattle.ax_policy.specs.declared.policy.Policy.{Policy}
use Rattle.ax_container.specs.Container.{Container}
use Rattle.ax_plan.specs.Taken.{IsTaken}
use Rattle.ax_needs.specs.Needs.{policies_of}

-- whichever policy it is that is in use or now in the table, the container has it
abbrev pub AreJustInUse : Table → Container → Type 0
AreJustInUse table container = (policy : Policy) → IsTaken table policy → Contains (policies_of container) policy
