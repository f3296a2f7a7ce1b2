-- The number under which the document of an id stands, by a set of pairs: the least that has the id's term. And the
-- range in which that term is alone. It is this project's own; it comes from no public document.
use Rattle.std.specs.Prelude.{◌≡◌, ℕ, ◌<◌, true, false, List, [], ◌∷◌, ◌++◌, Option, Some, None}
use Rattle.ax_pair.specs.declared.pair.Pair.{Pair}
use Rattle.ax_pairs.specs.PairSets.{PairSet}
use Rattle.ax_term.specs.Terms.{Term}
use Rattle.ax_term.specs.TermBytes.{term_bytes}
use Rattle.ax_term.specs.declared.range.TermRange.{TermRange}

-- the pair of an id's term and a number
abbrev pub id_pair : List ℕ → ℕ → Pair
id_pair id number = record { term = term_bytes (Term.Id id); number = number }

-- The set has the pair of the id's term and this number, and of that term no pair with a lesser number; or it has no
-- pair of that term.
abbrev pub IsNumberOf : List ℕ → PairSet → Option ℕ → Type 0
IsNumberOf id set (Some number) = (set (id_pair id number) ≡ true) × ((other : ℕ) → other < number → set (id_pair id other) ≡ false)
IsNumberOf id set None = (number : ℕ) → set (id_pair id number) ≡ false

-- from an id's term on, and before that term with a byte 0 behind it: no other term is between them
abbrev pub id_range : List ℕ → TermRange
id_range id = record { from = term_bytes (Term.Id id); below = term_bytes (Term.Id id) ++ 0 ∷ [] }
