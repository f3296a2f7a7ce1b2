-- What a term keeps of a text: its first 128 bytes and whether there are more. The store's own term
-- format, docs/FORMAT.md.
use Rattle.std.specs.Prelude.{ℕ, List, Bool, length, take, nat_lt}

-- the front of a text, and whether the text was cut behind it
pub record CutText : Type 0 where
  pub front : List ℕ
  pub is_cut : Bool

-- the first 128 bytes, and whether more follow
abbrev pub cut : List ℕ → CutText
cut bytes = record { front = take 128 bytes; is_cut = nat_lt 128 (length bytes) }
