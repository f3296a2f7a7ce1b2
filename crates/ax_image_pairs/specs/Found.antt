-- The number under which a set of pairs has the term of an id.
-- It is this project's own; it comes from no public document.
use Rattle.std.specs.Prelude.{◌≡◌, ℕ, true, false, List, Option, Some, None, option_map}
use Rattle.ax_container.specs.Container.{Container, entry_of}
use Rattle.ax_pair.specs.declared.pair.Pair.{Pair}
use Rattle.ax_pairs.specs.PairSets.{PairSet}
use Rattle.ax_term.specs.TermBytes.{term_bytes}
use Rattle.ax_term.specs.Terms.{Term}

-- the pair of an id's term and a number
abbrev pub id_pair : List ℕ → ℕ → Pair
id_pair id number = record { term = term_bytes (Term.Id id); number = number }

-- the set has the pair of the id's term and this number, or no pair of that term
abbrev pub HasNumber : PairSet → List ℕ → Option ℕ → Type 0
HasNumber set id (Some number) = set (id_pair id number) ≡ true
HasNumber set id None = (number : ℕ) → set (id_pair id number) ≡ false

-- the number of the document of that id, where the container has one
abbrev pub number_in : List ℕ → Container → Option ℕ
number_in id container = option_map (λ entry. entry.number) (entry_of id container)
