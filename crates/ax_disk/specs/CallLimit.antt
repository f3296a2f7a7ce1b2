-- How many calls a disk may still answer, where it has such a limit: `Some` of them, or `None`, of
-- which nothing is said.
-- It is this project's own; it comes from no public document.
use Rattle.std.specs.Prelude.{ℕ, ◌-◌, Option, Some, None}

-- after a call
abbrev pub one_call_less : Option ℕ → Option ℕ
one_call_less None = None
one_call_less (Some calls) = Some (calls - 1)
