-- Reading the postings with which bytes begin, as functions on lists. Only clauses of private
-- functions, and the views of a leaf and of a cursor, cite these: what is read is said by the
-- grammar of `Payload`.
use Rattle.std.specs.Prelude.{ℕ, List, [], ◌∷◌, Option, Some, None, take, drop, option_and_then, zero, suc}
use Rattle.ax_gap.specs.Reading.{first_varint, first_gaps}
use Rattle.ax_leaf.specs.Pairs.{Posting}
use Rattle.ax_leaf.specs.ShortTerm.{whole_term}

-- the numbers of the gap list with which the bytes begin, and the bytes after it
abbrev pub first_list : List ℕ → Option (List ℕ × List ℕ)
first_list bytes = option_and_then (λ count. first_gaps 0 count.0 count.1) (first_varint bytes)

-- a posting of this term, with numbers that were read, and the bytes after them
abbrev pub posting_of : List ℕ → Option (List ℕ × List ℕ) → Option (Posting × List ℕ)
posting_of term None = None
posting_of term (Some found) = Some (record { term = term; numbers = found.0 }, found.1)

-- the posting with which the bytes begin, where its term is written after `last`, and the bytes
-- after it
unfoldable pub first_posting : List ℕ → List ℕ → Option (Posting × List ℕ)
first_posting last bytes =
    option_and_then
    (λ shared.
    option_and_then
    (λ size. posting_of (whole_term last shared.0 (take size.0 size.1)) (first_list (drop size.0 size.1)))
    (first_varint shared.1))
    (first_varint bytes)

-- a posting before those that the rest gives
abbrev pub put_before : (List ℕ → List ℕ → List Posting) → Option (Posting × List ℕ) → List Posting
put_before others None = []
put_before others (Some found) = found.0 ∷ others found.0.term found.1

-- so many postings, the first of which is written after `last`
unfoldable pub postings_in : ℕ → List ℕ → List ℕ → List Posting
postings_in zero last bytes = []
postings_in (suc count) last bytes = put_before (postings_in count) (first_posting last bytes)
