-- What is kept of a part that is new, as contracts see it: its payload, and the low pair at its front.
-- It is this project's own; it comes from no public document.
use Rattle.std.specs.Prelude.{List, ℕ}
use Rattle.ax_pair.specs.declared.pair.Pair.{Pair}
use Rattle.ax_store.specs.declared.new_part.NewPart.{NewPart}

abbrev pub new_payload : NewPart → List ℕ
new_payload new = new.part.payload.bytes

abbrev pub new_low : NewPart → Pair
new_low new = record { term = new.term.items; number = new.number }
