-- The names of the members of a map (an object of RFC 8259), which rise strictly by bytes, so that
-- no name stands twice.
use Rattle.std.specs.Prelude.{◌≡◌, ℕ, List, map, true}
use Rattle.ax_tree.specs.declared.members.Member.{Member}
use Rattle.ax_tree.specs.Rising.{is_rising}

abbrev pub names : {T : Type 0} → List (Member T) → List (List ℕ)
names members = map (λ m. m.name) members

abbrev pub HaveRisingNames : {T : Type 0} → List (Member T) → Type 0
HaveRisingNames members = is_rising (names members) ≡ true
