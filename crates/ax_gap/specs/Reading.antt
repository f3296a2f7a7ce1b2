-- Reading the varint, or the gaps, with which bytes begin, as functions on lists. Only the clauses
-- of private functions and the view of a cursor cite these: what is read is said by the grammars of
-- `Varint` and `Gaps`.
use Rattle.std.specs.Prelude.{ℕ, ◌+◌, ◌-◌, ◌*◌, ◌^◌, ◌==◌, List, [], ◌∷◌, Option, Some, None, nat_lt, nat_le, option_and_then, zero, suc, if◌then◌else◌}

-- a byte before a varint that was read
abbrev pub longer : ℕ → Option (ℕ × List ℕ) → Option (ℕ × List ℕ)
longer byte None = None
longer byte (Some found) = if found.0 == 0 then None else Some (byte - 128 + 128 * found.0, found.1)

-- the number of the varint with which the bytes begin, and the bytes after it
abbrev pub first_varint : List ℕ → Option (ℕ × List ℕ)
first_varint [] = None
first_varint (byte ∷ rest) = if nat_lt byte 128 then Some (byte, rest) else longer byte (first_varint rest)

-- what was read, where the number is at most `most`
abbrev pub at_most : ℕ → Option (ℕ × List ℕ) → Option (ℕ × List ℕ)
at_most most None = None
at_most most (Some found) = if nat_le found.0 most then Some found else None

-- the number whose gap comes first, where none below `least` may stand, and the bytes after the gap
abbrev pub first_number : ℕ → List ℕ → Option (ℕ × List ℕ)
first_number least bytes =
    option_and_then
    (λ gap. if nat_lt (least + gap.0) (2 ^ 32) then Some (least + gap.0, gap.1) else None)
    (first_varint bytes)

-- a number before those that were read
abbrev pub before : ℕ → Option (List ℕ × List ℕ) → Option (List ℕ × List ℕ)
before n None = None
before n (Some found) = Some (n ∷ found.0, found.1)

-- so many numbers from the gaps with which the bytes begin, none below `least`, and the bytes after
-- them
unfoldable pub first_gaps : ℕ → ℕ → List ℕ → Option (List ℕ × List ℕ)
first_gaps least zero bytes = Some ([], bytes)
first_gaps least (suc count) bytes =
    option_and_then (λ found. before found.0 (first_gaps (found.0 + 1) count found.1)) (first_number least bytes)
