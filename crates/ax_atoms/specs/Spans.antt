-- The ranges of terms of a condition, by their first bytes and those before which they end. The store's
-- own term format, docs/FORMAT.md. Which terms are in them is told in `Wanted`, by the order of terms.
use Rattle.std.specs.Prelude.{ℕ, negsuc, ◌+◌, List, [], ◌∷◌, ◌++◌, map, take, Bool, false, nat_lt, if◌then◌else◌}
use Rattle.std.specs.List.{list_any}
use Rattle.ax_mean.specs.declared.query.Step.{Step}
use Rattle.ax_mean.specs.declared.query.Step.TheVariants.{Name, Item}
use Rattle.ax_mean.specs.declared.value.Value.{Value}
use Rattle.ax_term.specs.CutTexts.{CutText}
use Rattle.ax_term.specs.CutValues.{CutValue, cut_of}
use Rattle.ax_term.specs.Ranges.{is_in_range}
use Rattle.ax_term.specs.TermBytes.{term_bytes}
use Rattle.ax_term.specs.Terms.{Term}
use Rattle.ax_term.specs.declared.range.TermRange.{TermRange}
use Rattle.ax_atoms.specs.Atoms.{Atom}

-- the terms from one on, up to another and with it: no term is between those bytes and the same with a
-- 00 behind them
abbrev pub up_to : Term → Term → TermRange
up_to first last = record { from = term_bytes first; below = term_bytes last ++ 0 ∷ [] }

-- the terms from one on, before another
abbrev pub before : Term → Term → TermRange
before first next = record { from = term_bytes first; below = term_bytes next }

-- the term of a value alone
abbrev pub only : List Step → Value → TermRange
only path k = up_to (Term.Plain path (cut_of k)) (Term.Plain path (cut_of k))

-- a text of no bytes
abbrev pub no_bytes : CutText
no_bytes = record { front = []; is_cut = false }

-- the least number of 64 bits, and the least text
abbrev pub least_of_kind : CutValue → CutValue
least_of_kind (CutValue.Number number) = CutValue.Number (negsuc 9223372036854775807)
least_of_kind (CutValue.Text text) = CutValue.Text no_bytes
least_of_kind other = other

-- the least value behind all numbers, and behind all texts
abbrev pub next_kind : CutValue → CutValue
next_kind (CutValue.Number number) = CutValue.Text no_bytes
next_kind (CutValue.Text text) = CutValue.List no_bytes
next_kind other = other

-- the least step behind this one
abbrev pub next_step : Step → Step
next_step Item = Name []
next_step (Name name) = Name (name ++ 0 ∷ [])

-- the least path behind all that begin with this one
abbrev pub next_path : List Step → List Step
next_path [] = []
next_path (step ∷ []) = next_step step ∷ []
next_path (step ∷ other ∷ steps) = step ∷ next_path (other ∷ steps)

-- a byte with 1 added to it; none of FF
abbrev pub raised_byte : ℕ → List ℕ
raised_byte byte = if nat_lt byte 255 then (byte + 1) ∷ [] else []

-- a byte before what those behind it come to; where that is nothing the byte itself is raised
abbrev pub raised_front : ℕ → List ℕ → List ℕ
raised_front byte [] = raised_byte byte
raised_front byte (first ∷ rest) = byte ∷ first ∷ rest

-- the least bytes behind all that begin with these: the last byte below FF is raised, and what stands
-- behind it falls away; none where all are FF
abbrev pub next_bytes : List ℕ → List ℕ
next_bytes [] = []
next_bytes (byte ∷ bytes) = raised_front byte (next_bytes bytes)

-- the text of these bytes; where there are none, what is behind all texts
abbrev pub behind_texts : List ℕ → CutValue
behind_texts [] = CutValue.List no_bytes
behind_texts (byte ∷ bytes) = CutValue.Text (record { front = byte ∷ bytes; is_cut = false })

-- the terms of a condition, as ranges
abbrev pub ranges_of : Atom → List TermRange
ranges_of (Atom.Equals path k) = only path k ∷ []
ranges_of (Atom.AtMost path k) =
    up_to (Term.Plain path (least_of_kind (cut_of k))) (Term.Plain path (cut_of k)) ∷ []
ranges_of (Atom.AtLeast path k) =
    before (Term.Plain path (cut_of k)) (Term.Plain path (next_kind (cut_of k))) ∷ []
ranges_of (Atom.Within path k m) =
    up_to (Term.Plain path (cut_of k)) (Term.Plain path (cut_of m)) ∷ []
ranges_of (Atom.OneOf path ks) = map (only path) ks
ranges_of (Atom.Exists path) =
    before (Term.Plain path CutValue.Undefined) (Term.Plain (next_path path) CutValue.Undefined) ∷ []
ranges_of (Atom.Begins path k) =
    before (Term.Plain path (CutValue.Text (record { front = take 128 k; is_cut = false })))
    (Term.Plain path (behind_texts (next_bytes (take 128 k)))) ∷ []
ranges_of (Atom.Holds path k) = only (path ++ Item ∷ []) k ∷ []

-- whether a term of these bytes is in one of the ranges
abbrev pub is_in_some : List TermRange → List ℕ → Bool
is_in_some ranges term = list_any (λ range. is_in_range range term) ranges
