-- Reading the term changes with which bytes begin, as functions on lists. Only clauses of private
-- functions and the views cite these: what is read is said by the grammar of `Payload`.
use Rattle.std.specs.Prelude.{ℕ, List, [], ◌∷◌, Option, Some, None, take, drop, option_and_then, zero, suc}
use Rattle.ax_gap.specs.Reading.{first_varint}
use Rattle.ax_leaf.specs.Reading.{first_list}
use Rattle.ax_leaf.specs.ShortTerm.{whole_term}
use Rattle.ax_delta.specs.Changes.{TermChange}

-- a change of this term, with numbers that were read, and the bytes after them
abbrev pub change_of : List ℕ → List ℕ → Option (List ℕ × List ℕ) → Option (TermChange × List ℕ)
change_of term added None = None
change_of term added (Some found) = Some (record { term = term; added = added; dropped = found.0 }, found.1)

-- the term change with which the bytes begin, where its term is written after `last`, and the bytes
-- after it
unfoldable pub first_change : List ℕ → List ℕ → Option (TermChange × List ℕ)
first_change last bytes =
    option_and_then
    (λ shared.
    option_and_then
    (λ size.
    option_and_then
    (λ added. change_of (whole_term last shared.0 (take size.0 size.1)) added.0 (first_list added.1))
    (first_list (drop size.0 size.1)))
    (first_varint shared.1))
    (first_varint bytes)

-- a term change before those that the rest gives
abbrev pub put_before : (List ℕ → List ℕ → List TermChange) → Option (TermChange × List ℕ) → List TermChange
put_before others None = []
put_before others (Some found) = found.0 ∷ others found.0.term found.1

-- so many term changes, the first of which is written after `last`
unfoldable pub changes_in : ℕ → List ℕ → List ℕ → List TermChange
changes_in zero last bytes = []
changes_in (suc count) last bytes = put_before (changes_in count) (first_change last bytes)
