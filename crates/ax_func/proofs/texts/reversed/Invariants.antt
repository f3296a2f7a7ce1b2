-- What is put down, and then what is left from its last character on, are the whole reversed.
use Rattle.std.proofs.Common.{◌≡◌, ◌++◌, reverse, length, string_bytes}
use denote.Text.{Utf8}
use denote.Shadow.{shadow}
use Rattle.std.specs.Str.{chars, encode_utf8_all}
use Rattle.ax_func.proofs.texts.reversed.Given as goal

abbrev pub invariant-loop-character : goal.invariant-loop-character
invariant-loop-character l =
    shadow
    (Utf8 l.left)
    × (string_bytes l.reversed ++ encode_utf8_all (reverse (chars l.left)) ≡ encode_utf8_all
    (reverse (chars l.text)))

abbrev pub decreases-loop-character : goal.decreases-loop-character
decreases-loop-character l = length l.left
