-- What a write leaves, over the bytes that a sink tells it was given: `Some` of them, or `None`, of
-- which nothing is said.
-- It adds to the words of the standard library for readers and writers (`Keeps`, `Appends`,
-- `Consumes`, `IsAtEnd`).
-- It is this project's own; it comes from no public document.
use Rattle.std.specs.Prelude.{ℕ, ◌≤◌, List, length, take}
use Rattle.std.specs.declared.option.Option.{Option}
use Rattle.std.specs.Io.KnownBytes.{Appends}

-- told bytes grow by some prefix of `bytes`: none of them, some, or all
abbrev pub AppendsPrefix : Option (List ℕ) → Option (List ℕ) → List ℕ → Type 0
AppendsPrefix before after bytes =
    (count : ℕ) × (count ≤ length bytes) × Appends before after (take count bytes)
