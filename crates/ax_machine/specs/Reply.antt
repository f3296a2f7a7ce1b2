-- What a line is answered: that a write was made, a document, rows with what ends them, or a refusal.
use Rattle.std.specs.Prelude.{ℕ, List}
use Rattle.ax_lines.specs.declared.refusal.Refusal.{Refusal}
use Rattle.ax_lines.specs.declared.refusal.Refusal.TheVariants as refusal

-- what ends rows: no row is left, or the token by which the next ones are asked for
pub data RowsEnd : Type 0 where
  End : RowsEnd
  More : List ℕ → RowsEnd

pub data Reply : Type 0 where
  Ok : Reply
  -- the canonical text of a document
  Doc : List ℕ → Reply
  -- the canonical texts of rows
  Rows : List (List ℕ) → RowsEnd → Reply
  Refused : Refusal → Reply

-- the reply to a line that is not answered by its step, for want of memory
abbrev pub out_of_memory : Reply
out_of_memory = Refused refusal.Memory
