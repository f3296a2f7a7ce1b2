-- Why a line is refused: a list of causes, each a condition with its refusal. The first that
-- applies is answered, and where none does the answer is what the line's form says.
use Rattle.std.specs.Prelude.{List, [], ◌∷◌, Bool, if◌then◌else◌, Result, Err}
use Rattle.ax_lines.specs.declared.refusal.Refusal.{Refusal}

pub record Cause : Type 0 where
  pub applies : Bool
  pub refusal : Refusal

-- the answer, unless a cause applies
abbrev pub unless : {A : Type 0} → List Cause → Result A Refusal → Result A Refusal
unless [] answer = answer
unless (cause ∷ causes) answer =
    if cause.applies then Err cause.refusal else unless causes answer
