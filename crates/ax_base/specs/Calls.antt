-- The calls of a source or a sink in memory, of which chosen ones fail, and what contracts see of
-- either.
-- It is this project's own; it comes from no public document.
use Rattle.std.specs.Prelude.{ℕ, ◌<◌, ◌≤◌, ◌⊎◌, List, length, Contains}
use Rattle.ax_faults.specs.Faults.{raised}

-- how many calls were made, how many failed, and the numbers of the calls that are to fail
pub record Calls : Type 0 where
  pub made : ℕ
  pub faults : ℕ
  pub failing : List ℕ

-- the number of the next call; the first is 1
abbrev pub next_call : Calls → ℕ
next_call calls = raised calls.made

-- the calls after one that did not fail
abbrev pub after_success : Calls → Calls
after_success calls = record calls { made = next_call calls }

-- the calls after one that failed
abbrev pub after_failure : Calls → Calls
after_failure calls = record calls { made = next_call calls; faults = raised calls.faults }

-- a source in memory: the bytes that remain, and its calls
pub record SourceState : Type 0 where
  pub remaining : List ℕ
  pub calls : Calls

-- a sink in memory: the bytes that were written, how many it takes in all, and its calls
pub record SinkState : Type 0 where
  pub written : List ℕ
  pub capacity : ℕ
  pub calls : Calls

-- the next write of the piece fails: it is one that is to fail, or the piece is not empty and there
-- is room for none of it
abbrev pub RefusesPiece : SinkState → List ℕ → Type 0
RefusesPiece sink piece =
    Contains sink.calls.failing (next_call sink.calls)
    ⊎ ((0 < length piece) × (sink.capacity ≤ length sink.written))
