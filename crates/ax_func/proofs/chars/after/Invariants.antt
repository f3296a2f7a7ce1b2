-- What is left are the characters behind those that were passed.
use Rattle.std.proofs.Common.{◌≡◌, drop}
use denote.Text.{Utf8}
use denote.Shadow.{shadow}
use Rattle.std.specs.Str.{chars}
use Rattle.ax_func.proofs.chars.after.Given as goal

abbrev pub invariant-loop-done : goal.invariant-loop-done
invariant-loop-done l = shadow (Utf8 l.rest) × (chars l.rest ≡ drop l.done (chars l.text))
