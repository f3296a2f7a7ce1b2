-- What the merging of term pages writes, where a user asks for it.
-- It is this project's own; it comes from no public document.
use Rattle.std.specs.Prelude.{◌≡◌, ℕ, Bool, List, [], Some, Result, Ok, Err}
use Rattle.ax_area.specs.Contents.{Contents}
use Rattle.ax_area.specs.Parts.{after_parts}
use Rattle.ax_frame.specs.Part.{PartValue}
use Rattle.ax_index.specs.Merging.{IsMergePlan}
use Rattle.ax_store.specs.declared.fault.StoreFault.{StoreFault}

-- the answer without how many pages were merged
abbrev pub done_of : Result ℕ StoreFault → Result (Unit {0}) StoreFault
done_of (Ok merged) = Ok tt
done_of (Err why) = Err why

-- In one batch exactly the parts were written that merge so many term pages; where there are none, nothing was.
pub record IsMerged (honest : Bool) (count merged : ℕ) (before after : Contents) : Type 0 where
  pub parts : List PartValue
  pub plan : IsMergePlan honest count merged [] parts before.terms
  pub written : after_parts parts before ≡ Some after
