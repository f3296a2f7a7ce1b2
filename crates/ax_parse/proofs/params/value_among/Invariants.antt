use Rattle.std.proofs.Common.{◌≡◌, ◌∷◌, drop}
use Rattle.ax_tree.specs.Document.{value_of}
use Rattle.ax_parse.specs.Params.{given}
use Rattle.ax_parse.proofs.params.value_among.Given as goal

abbrev pub invariant-loop-member : goal.invariant-loop-member
invariant-loop-member l =
    value_of (64 ∷ l.word) (given (drop l.member-index l.members))
    ≡ value_of (64 ∷ l.word) (given l.members)
