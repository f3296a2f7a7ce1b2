-- The bytes of a term, so made that their order is that of terms. The store's own term format,
-- docs/FORMAT.md.
use Rattle.std.specs.Prelude.{ℕ, ◌+◌, ◌-◌, ◌^◌, ℤ, pos, negsuc, List, [], ◌∷◌, ◌++◌, Bool, length, map, zero, suc, if◌then◌else◌}
use Rattle.std.specs.Int.{w64, to_be_bytes}
use Rattle.ax_mean.specs.declared.query.Order.{Order}
use Rattle.ax_mean.specs.declared.query.Step.{Step}
use Rattle.ax_term.specs.CutTexts.{CutText}
use Rattle.ax_term.specs.CutValues.{CutValue}
use Rattle.ax_term.specs.Terms.{Term}

-- each byte 00 becomes 00 FF
abbrev pub escaped : List ℕ → List ℕ
escaped [] = []
escaped (zero ∷ bytes) = 0 ∷ 0xFF ∷ escaped bytes
escaped (suc byte ∷ bytes) = suc byte ∷ escaped bytes

-- the escaped front; behind it 00 01 where the text ends there, 00 02 where it was cut
abbrev pub text_bytes : CutText → List ℕ
text_bytes text = escaped text.front ++ 0 ∷ (if text.is_cut then 2 else 1) ∷ []

-- a number of 64 bits with 2^63 added to it, so that none is below 0: its sign bit turned
abbrev pub raised : ℤ → ℕ
raised (pos n) = 2 ^ 63 + n
raised (negsuc n) = 2 ^ 63 - 1 - n

-- a byte for the rank, and behind it what tells the values of a rank apart: the raised number in 8
-- bytes, the high ones first, or the text
abbrev pub value_bytes : CutValue → List ℕ
value_bytes CutValue.Undefined = 0x10 ∷ []
value_bytes CutValue.Null = 0x11 ∷ []
value_bytes CutValue.False = 0x12 ∷ []
value_bytes CutValue.True = 0x13 ∷ []
value_bytes (CutValue.Number number) = 0x14 ∷ to_be_bytes w64 (raised number)
value_bytes (CutValue.Text text) = 0x15 ∷ text_bytes text
value_bytes (CutValue.List text) = 0x16 ∷ text_bytes text
value_bytes (CutValue.Object text) = 0x17 ∷ text_bytes text

-- 02 for any element of a list; 03, the escaped name and 00 01 for a name
abbrev pub step_bytes : Step → List ℕ
step_bytes Step.Item = 0x02 ∷ []
step_bytes (Step.Name name) = 0x03 ∷ (escaped name ++ 0x00 ∷ 0x01 ∷ [])

-- the steps, and 01 at the end
abbrev pub path_bytes : List Step → List ℕ
path_bytes [] = 0x01 ∷ []
path_bytes (step ∷ path) = step_bytes step ++ path_bytes path

-- 00 for ascending or 01 for descending, and the path
abbrev pub column_bytes : Order → List ℕ
column_bytes column = (if column.down then 1 else 0) ∷ path_bytes column.path

-- one after another
abbrev pub columns_bytes : List Order → List ℕ
columns_bytes [] = []
columns_bytes (column ∷ columns) = column_bytes column ++ columns_bytes columns

-- each byte complemented
abbrev pub complemented : List ℕ → List ℕ
complemented = map (λ byte. 0xFF - byte)

-- a value, complemented where its path is descending
abbrev pub directed_bytes : Bool → CutValue → List ℕ
directed_bytes down value = if down then complemented (value_bytes value) else value_bytes value

-- the values one after another, each in the direction of its path
abbrev pub values_bytes : List Order → List CutValue → List ℕ
values_bytes (column ∷ columns) (value ∷ values) =
    directed_bytes column.down value ++ values_bytes columns values
values_bytes _ _ = []

-- 01 and the id; 02, the path and the value; 03, the number of paths, the paths with their
-- directions, and the values
abbrev pub term_bytes : Term → List ℕ
term_bytes (Term.Id id) = 0x01 ∷ id
term_bytes (Term.Plain path value) = 0x02 ∷ (path_bytes path ++ value_bytes value)
term_bytes (Term.Composite columns values) =
    0x03 ∷ length columns ∷ (columns_bytes columns ++ values_bytes columns values)
