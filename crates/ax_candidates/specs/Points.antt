-- Ranges of one term, and the kinds of unions: by them it is decided which unions are looked up first.
-- Only clauses of private functions cite these. It is this project's own; it comes from no public document.
use Rattle.std.specs.Prelude.{List, [], ◌∷◌, ◌++◌, length, nat_le, Bool, true, ◌&&◌, if◌then◌else◌}
use Rattle.std.specs.Str.{bytes_eq}
use Rattle.ax_term.specs.declared.range.TermRange.{TermRange}
use Rattle.ax_candidates.specs.declared.points.Kind.{Kind}
use Rattle.ax_candidates.specs.declared.points.Kind.TheVariants.{Point, Points, Ranges}

-- the range ends at its first bytes with a byte 0 behind them: no bytes are between the two
abbrev pub is_of_one_term : TermRange → Bool
is_of_one_term range = bytes_eq range.below (range.from ++ 0 ∷ [])

-- each of the ranges is that of one term
abbrev pub are_of_one_term : List TermRange → Bool
are_of_one_term [] = true
are_of_one_term (range ∷ ranges) = is_of_one_term range && are_of_one_term ranges

-- one point or no range, several points, or one range at least that is no point
abbrev pub kind_of : List TermRange → Kind
kind_of ranges = if are_of_one_term ranges then (if nat_le (length ranges) 1 then Point else Points) else Ranges
