-- How the pattern's rest fares, and what is left of both. The measure counts first what may still be
-- begun, then what is left of the text.
use Rattle.std.proofs.Common.{◌+◌, ◌*◌, ◌≤◌, length}
use denote.Text.{Utf8}
use denote.Shadow.{shadow}
use Rattle.std.specs.Str.{chars}
use Rattle.ax_mean.specs.Like.{matches, some_rest}
use Rattle.ax_func.proofs.LikeLemmas.{Fares}
use Rattle.ax_func.proofs.like.matches_by_characters.Given as goal

abbrev pub invariant-loop-pattern_rest : goal.invariant-loop-pattern_rest
invariant-loop-pattern_rest l =
    shadow (Utf8 l.tried_text) × shadow (Utf8 l.tried_pattern) × shadow (Utf8 l.text_left) × shadow
    (Utf8 l.pattern_left)
    × Fares (some_rest (matches (chars l.pattern)) (chars l.text)) (chars l.tried_pattern)
    (chars l.tried_text) (chars l.pattern_left) (chars l.text_left)
    × (length l.text_left ≤ length l.tried_text)
    × (length l.tried_text ≤ length l.text)
    × (length l.pattern_left ≤ length l.tried_pattern)

abbrev pub decreases-loop-pattern_rest : goal.decreases-loop-pattern_rest
decreases-loop-pattern_rest l =
    (length l.tried_pattern + length l.tried_text) * (length l.text + 1) + length l.text_left
