-- Sets of pairs, and what changes make of them.
-- It is this project's own; it comes from no public document.
use Rattle.std.specs.Prelude.{Bool, List, [], ◌∷◌, if◌then◌else◌}
use Rattle.ax_pair.specs.declared.pair.Pair.{Pair}
use Rattle.ax_delta.specs.declared.change.Change.{Change}
use Rattle.ax_delta.specs.Said.{is_same}

-- a set of pairs: which pairs are in it
abbrev pub PairSet : Type 0
PairSet = Pair → Bool

-- after one change: its pair is in the set where it is added and else not, and of each other it is as before
abbrev pub with_change : Change → PairSet → Pair → Bool
with_change change set p = if is_same change.pair p then change.add else set p

-- after changes, from the first on
abbrev pub with_changes : List Change → PairSet → Pair → Bool
with_changes [] set p = set p
with_changes (change ∷ changes) set p = with_changes changes (with_change change set) p
