-- What is left of the text compares with what is left to come as the whole does.
use Rattle.std.proofs.Common.{◌≡◌, ℕ, List, ◌++◌, drop}
use Rattle.std.specs.Cmp.Lexicographic.{slice_cmp}
use Rattle.std.specs.Ordering.{nat_cmp}
use Rattle.ax_policy.specs.Paths.{escaped}
use Rattle.ax_policy.proofs.compare.after_escaped.Given as goal

abbrev pub invariant-loop-byte : goal.invariant-loop-byte
invariant-loop-byte l =
    (follow : List ℕ) → slice_cmp nat_cmp l.fn.text (escaped l.name ++ follow)
    ≡ slice_cmp nat_cmp l.rest (escaped (drop l.byte-index l.name) ++ follow)
