-- What is left of both decides.
use Rattle.std.proofs.Common.{◌≡◌, length}
use denote.Text.{Utf8}
use denote.Shadow.{shadow}
use Rattle.std.specs.Str.{chars}
use Rattle.ax_mean.specs.Like.{matches, some_rest}
use Rattle.ax_func.proofs.like.matches_somewhere.Given as goal

abbrev pub invariant-loop-piece : goal.invariant-loop-piece
invariant-loop-piece l =
    shadow (Utf8 l.text_left) × shadow (Utf8 l.pattern_left)
    × (some_rest (matches (chars l.pattern)) (chars l.text)
    ≡ some_rest (matches (chars l.pattern_left)) (chars l.text_left))

abbrev pub decreases-loop-piece : goal.decreases-loop-piece
decreases-loop-piece l = length l.pattern_left
