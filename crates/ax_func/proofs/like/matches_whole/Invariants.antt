-- What is left decides.
use Rattle.std.proofs.Common.{◌≡◌, length}
use denote.Text.{Utf8}
use denote.Shadow.{shadow}
use Rattle.std.specs.Str.{chars}
use Rattle.ax_mean.specs.Like.{matches}
use Rattle.ax_func.proofs.like.matches_whole.Given as goal

abbrev pub invariant-loop-wanted : goal.invariant-loop-wanted
invariant-loop-wanted l =
    shadow (Utf8 l.text_left) × shadow
    (Utf8 l.pattern_left)
    × (matches (chars l.pattern) (chars l.text) ≡ matches (chars l.pattern_left)
    (chars l.text_left))

abbrev pub decreases-loop-wanted : goal.decreases-loop-wanted
decreases-loop-wanted l = length l.pattern_left
