-- The bytes of a term are bytes, piece by piece.
use Rattle.std.proofs.Common.{ℕ, ◌-◌, ◌<◌, ◌≤◌, zero, suc, List, [], ◌∷◌, ◌++◌, Bool, true, false, length, All, arith, lit<, if◌then◌else◌}
use Rattle.std.proofs.lemmas.List.Elements.{All-nil, All-cons, All-head, All-tail, All-append}
use Rattle.std.proofs.Math.Nat.{mod-lt}
use Rattle.std.specs.Int.{w64, to_be_bytes, bytes_high_first, byte_at}
use Rattle.ax_mean.specs.declared.query.Order.{Order}
use Rattle.ax_mean.specs.declared.query.Step.{Step}
use Rattle.ax_term.specs.CutTexts.{CutText}
use Rattle.ax_term.specs.CutValues.{CutValue}
use Rattle.ax_term.specs.Fitting.{AreBytes, IsStep, IsPath, IsText, IsValue, IsTerm}
use Rattle.ax_term.specs.TermBytes.{escaped, text_bytes, raised, value_bytes, step_bytes, path_bytes, column_bytes, columns_bytes, complemented, directed_bytes, values_bytes, term_bytes}
use Rattle.ax_term.specs.Terms.{Term}

abbrev IsByte : ℕ → Type 0
IsByte byte = byte < 256

pub none : AreBytes []
none = All-nil IsByte

pub one : (byte : ℕ) (bytes : List ℕ) → byte < 256 → AreBytes bytes → AreBytes (byte ∷ bytes)
one byte bytes h more = All-cons IsByte byte bytes h more

pub both : (a b : List ℕ) → AreBytes a → AreBytes b → AreBytes (a ++ b)
both a b h k = All-append IsByte a b h k

pub escaped_bytes : (bytes : List ℕ) → AreBytes bytes → AreBytes (escaped bytes)
escaped_bytes [] h = none
escaped_bytes (zero ∷ bytes) h =
    one 0 (255 ∷ escaped bytes) (lit< tt)
    (one 255 (escaped bytes) (lit< tt) (escaped_bytes bytes (All-tail IsByte zero bytes h)))
escaped_bytes (suc byte ∷ bytes) h =
    one (suc byte) (escaped bytes) (All-head IsByte (suc byte) bytes h)
    (escaped_bytes bytes (All-tail IsByte (suc byte) bytes h))

end_byte : (is_cut : Bool) → (if is_cut then 2 else 1) < 256
end_byte true = lit< tt
end_byte false = lit< tt

pub bytes_of_text : (text : CutText) → IsText text → AreBytes (text_bytes text)
bytes_of_text text h =
    both (escaped text.front) (0 ∷ (if text.is_cut then 2 else 1) ∷ []) (escaped_bytes text.front h)
    (one 0 ((if text.is_cut then 2 else 1) ∷ []) (lit< tt)
    (one (if text.is_cut then 2 else 1) [] (end_byte text.is_cut) none))

is_byte : (i n : ℕ) → byte_at i n < 256
is_byte zero n = mod-lt n (lit< tt)
is_byte (suc i) n = mod-lt _ (lit< tt)

digits : (k n : ℕ) → AreBytes (bytes_high_first k n)
digits zero n = none
digits (suc k) n = one (byte_at k n) (bytes_high_first k n) (is_byte k n) (digits k n)

pub bytes_of_value : (value : CutValue) → IsValue value → AreBytes (value_bytes value)
bytes_of_value CutValue.Undefined h = one 16 [] (lit< tt) none
bytes_of_value CutValue.Null h = one 17 [] (lit< tt) none
bytes_of_value CutValue.False h = one 18 [] (lit< tt) none
bytes_of_value CutValue.True h = one 19 [] (lit< tt) none
bytes_of_value (CutValue.Number z) h =
    one 20 (to_be_bytes w64 (raised z)) (lit< tt) (digits 8 (raised z))
bytes_of_value (CutValue.Text text) h = one 21 (text_bytes text) (lit< tt) (bytes_of_text text h)
bytes_of_value (CutValue.List text) h = one 22 (text_bytes text) (lit< tt) (bytes_of_text text h)
bytes_of_value (CutValue.Object text) h = one 23 (text_bytes text) (lit< tt) (bytes_of_text text h)

bytes_of_step : (step : Step) → IsStep step → AreBytes (step_bytes step)
bytes_of_step Step.Item h = one 2 [] (lit< tt) none
bytes_of_step (Step.Name name) h =
    one 3 (escaped name ++ 0 ∷ 1 ∷ []) (lit< tt)
    (both (escaped name) (0 ∷ 1 ∷ []) (escaped_bytes name h)
    (one 0 (1 ∷ []) (lit< tt) (one 1 [] (lit< tt) none)))

bytes_of_path : (path : List Step) → IsPath path → AreBytes (path_bytes path)
bytes_of_path [] h = one 1 [] (lit< tt) none
bytes_of_path (step ∷ path) h =
    both (step_bytes step) (path_bytes path) (bytes_of_step step (All-head IsStep step path h))
    (bytes_of_path path (All-tail IsStep step path h))

abbrev HasPath : Order → Type 0
HasPath column = IsPath column.path

direction : (down : Bool) → (if down then 1 else 0) < 256
direction true = lit< tt
direction false = lit< tt

bytes_of_column : (column : Order) → HasPath column → AreBytes (column_bytes column)
bytes_of_column column h =
    one (if column.down then 1 else 0) (path_bytes column.path) (direction column.down)
    (bytes_of_path column.path h)

bytes_of_columns : (columns : List Order) → All HasPath columns → AreBytes (columns_bytes columns)
bytes_of_columns [] h = none
bytes_of_columns (column ∷ columns) h =
    both (column_bytes column) (columns_bytes columns)
    (bytes_of_column column (All-head HasPath column columns h))
    (bytes_of_columns columns (All-tail HasPath column columns h))

complemented_bytes : (bytes : List ℕ) → AreBytes (complemented bytes)
complemented_bytes [] = none
complemented_bytes (byte ∷ bytes) =
    one (255 - byte) (complemented bytes) (omega arith) (complemented_bytes bytes)

bytes_of_directed : (down : Bool) (value : CutValue) → IsValue value
    → AreBytes (directed_bytes down value)
bytes_of_directed true value h = complemented_bytes (value_bytes value)
bytes_of_directed false value h = bytes_of_value value h

bytes_of_values : (columns : List Order) (values : List CutValue) → All IsValue values
    → AreBytes (values_bytes columns values)
bytes_of_values [] [] h = none
bytes_of_values [] (value ∷ values) h = none
bytes_of_values (column ∷ columns) [] h = none
bytes_of_values (column ∷ columns) (value ∷ values) h =
    both (directed_bytes column.down value) (values_bytes columns values)
    (bytes_of_directed column.down value (All-head IsValue value values h))
    (bytes_of_values columns values (All-tail IsValue value values h))

pub bytes_of_term : (term : Term) → IsTerm term → AreBytes (term_bytes term)
bytes_of_term (Term.Id id) h = one 1 id (lit< tt) h
bytes_of_term (Term.Plain path value) h =
    one 2 (path_bytes path ++ value_bytes value) (lit< tt)
    (both (path_bytes path) (value_bytes value) (bytes_of_path path h.0) (bytes_of_value value h.1))
bytes_of_term (Term.Composite columns values) h =
    one 3 (length columns ∷ (columns_bytes columns ++ values_bytes columns values)) (lit< tt)
    (one (length columns) (columns_bytes columns ++ values_bytes columns values)
    (let e : length columns ≤ 255 = h.at_most in omega arith)
    (both (columns_bytes columns) (values_bytes columns values) (bytes_of_columns columns h.paths_fit)
    (bytes_of_values columns values h.values_fit)))
