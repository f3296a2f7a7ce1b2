-- Bytes split into lines: what more bytes do to the lines, that there are lines, and that they are the one way.
use Rattle.std.proofs.Common.{◌≡◌, ℕ, List, [], ◌∷◌, ◌++◌, Bool, true, false, true≢false, ◌||◌}
use Rattle.std.proofs.Common.{◌==◌, refl, sym, ap, ◌∙◌, append_assoc, append-nil, eqb-true}
use Rattle.std.specs.List.{flat_map, list_any, AllByRecursion}
use Rattle.std.proofs.lemmas.Grind.{flat_map-append}
use Rattle.ax_lines.specs.ScriptLines.{newline, with_newline, IsOneLine, AreLines}

or_none : (a b : Bool) → (a || b) ≡ false → (a ≡ false) × (b ≡ false)
or_none true b e = absurd (true≢false e)
or_none false b e = (refl, e)

or_both : (a b : Bool) → a ≡ false → b ≡ false → (a || b) ≡ false
or_both a b first second = ap (λ x. x || b) first ∙ second

abbrev has_newline : List ℕ → Bool
has_newline bytes = list_any (λ byte. byte == newline) bytes

pub IsOneLine-append : (a b : List ℕ) → IsOneLine a → IsOneLine b → IsOneLine (a ++ b)
IsOneLine-append [] b first second = second
IsOneLine-append (x ∷ a) b first second =
    let parts = or_none (x == newline) (has_newline a) first in
    or_both (x == newline) (has_newline (a ++ b)) parts.0 (IsOneLine-append a b parts.1 second)

All_lines-append : (a b : List (List ℕ)) → AllByRecursion IsOneLine a → AllByRecursion IsOneLine b
    → AllByRecursion IsOneLine (a ++ b)
All_lines-append [] b first second = second
All_lines-append (x ∷ a) b first second = (first.0, All_lines-append a b first.1 second)

-- bytes that come behind are split together with the last piece
pub AreLines-more : (bytes piece : List ℕ) (lines more : List (List ℕ)) (last rest : List ℕ)
    → AreLines bytes lines last → AreLines (last ++ piece) more rest
    → AreLines (bytes ++ piece) (lines ++ more) rest
AreLines-more bytes piece lines more last rest first second = record {
  split = ap (λ l. l ++ piece) first.split ∙ append_assoc (flat_map with_newline lines) last piece
      ∙ ap (λ l. flat_map with_newline lines ++ l) second.split
      ∙ sym (append_assoc (flat_map with_newline lines) (flat_map with_newline more) rest)
      ∙ ap (λ l. l ++ rest) (sym (flat_map-append with_newline lines more));
  each = All_lines-append lines more first.each second.each;
  no_newline = second.no_newline;
}

pub AreLines-none : (bytes : List ℕ) → IsOneLine bytes → AreLines bytes [] bytes
AreLines-none bytes plain = record { split = refl; each = tt; no_newline = plain }

-- a line in two pieces, with its newline
pub AreLines-one : (first second : List ℕ) → IsOneLine first → IsOneLine second
    → AreLines (first ++ with_newline second) ((first ++ second) ∷ []) []
AreLines-one first second p q = record {
  split = sym (append_assoc first second (newline ∷ []))
      ∙ sym (append-nil (with_newline (first ++ second)))
      ∙ ap (λ l. l ++ []) (sym (append-nil (with_newline (first ++ second))));
  each = (IsOneLine-append first second p q, tt);
  no_newline = refl;
}

-- ---- there is one way to split

-- a byte before bytes that are split
abbrev onto_first : ℕ → List (List ℕ) → List ℕ → List (List ℕ) × List ℕ
onto_first byte [] last = ([], byte ∷ last)
onto_first byte (line ∷ lines) last = ((byte ∷ line) ∷ lines, last)

abbrev split_level : Bool → ℕ → List (List ℕ) × List ℕ → List (List ℕ) × List ℕ
split_level true byte later = ([] ∷ later.0, later.1)
split_level false byte later = onto_first byte later.0 later.1

abbrev split_of : List ℕ → List (List ℕ) × List ℕ
split_of [] = ([], [])
split_of (byte ∷ bytes) = split_level (byte == newline) byte (split_of bytes)

split_of-piece : (bytes : List ℕ) → IsOneLine bytes → split_of bytes ≡ ([], bytes)
split_of-piece [] plain = refl
split_of-piece (b ∷ bytes) plain =
    let parts = or_none (b == newline) (has_newline bytes) plain in
    ap (λ x. split_level x b (split_of bytes)) parts.0
    ∙ ap (split_level false b) (split_of-piece bytes parts.1)

split_of-line : (line rest : List ℕ) → IsOneLine line
    → split_of (with_newline line ++ rest) ≡ (line ∷ (split_of rest).0, (split_of rest).1)
split_of-line [] rest plain = refl
split_of-line (b ∷ line) rest plain =
    let parts = or_none (b == newline) (has_newline line) plain in
    ap (λ x. split_level x b (split_of (with_newline line ++ rest))) parts.0
    ∙ ap (split_level false b) (split_of-line line rest parts.1)

split_of-lines : (lines : List (List ℕ)) (last : List ℕ) → AllByRecursion IsOneLine lines
    → IsOneLine last → split_of (flat_map with_newline lines ++ last) ≡ (lines, last)
split_of-lines [] last each plain = split_of-piece last plain
split_of-lines (line ∷ lines) last each plain =
    ap split_of (append_assoc (with_newline line) (flat_map with_newline lines) last)
    ∙ split_of-line line (flat_map with_newline lines ++ last) each.0
    ∙ ap (λ later. (line ∷ later.0, later.1)) (split_of-lines lines last each.1 plain)

pub split_is : (bytes : List ℕ) (lines : List (List ℕ)) (last : List ℕ) → AreLines bytes lines last
    → split_of bytes ≡ (lines, last)
split_is bytes lines last are = ap split_of are.split
    ∙ split_of-lines lines last are.each are.no_newline

pub lines_are_one : (bytes : List ℕ) (a b : List (List ℕ)) (p q : List ℕ) → AreLines bytes a p
    → AreLines bytes b q → (a ≡ b) × (p ≡ q)
lines_are_one bytes a b p q first second =
    let same : (a, p) ≡ (b, q) = sym (split_is bytes a p first) ∙ split_is bytes b q second in
    (ap (λ x. x.0) same, ap (λ x. x.1) same)

-- a byte before bytes that are split
split_before : (byte : ℕ) (bytes : List ℕ) (newline_here : Bool) → (byte == newline) ≡ newline_here
    → (lines : List (List ℕ)) × (last : List ℕ) × AreLines bytes lines last
    → (lines : List (List ℕ)) × (last : List ℕ) × AreLines (byte ∷ bytes) lines last
split_before byte bytes true here (lines, last, later) = (
  [] ∷ lines,
  last,
  record {
    split = ap (λ b. b ∷ bytes) (eqb-true byte newline here) ∙ ap (λ l. newline ∷ l) later.split;
    each = (refl, later.each);
    no_newline = later.no_newline;
  },
)
split_before byte bytes false here ([], last, later) = (
  [],
  byte ∷ last,
  record {
    split = ap (λ l. byte ∷ l) later.split;
    each = tt;
    no_newline =
        or_both (byte == newline) (has_newline last) here later.no_newline;
  },
)
split_before byte bytes false here (line ∷ lines, last, later) = (
  (byte ∷ line) ∷ lines,
  last,
  record {
    split = ap (λ l. byte ∷ l) later.split;
    each = (or_both (byte == newline) (has_newline line) here later.each.0, later.each.1);
    no_newline = later.no_newline;
  },
)

pub there_are_lines : (bytes : List ℕ) → (lines : List (List ℕ)) × (last : List ℕ)
    × AreLines bytes lines last
there_are_lines [] = ([], [], AreLines-none [] refl)
there_are_lines (byte ∷ bytes) =
    split_before byte bytes (byte == newline) refl (there_are_lines bytes)
