-- Lists that are read item by item.
use Rattle.std.proofs.Common.{List, ◌++◌, Option}
use Rattle.std.specs.Option.{option_map}

-- those made so far, before those of the rest
abbrev pub joined : {B : Type 0} → List B → Option (List B) → Option (List B)
joined made rest = option_map (λ l. made ++ l) rest
