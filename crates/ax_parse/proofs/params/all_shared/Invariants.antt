use Rattle.std.proofs.Common.{◌≡◌, ◌++◌, drop}
use Rattle.ax_parse.specs.Params.{given}
use Rattle.ax_parse.proofs.params.all_shared.Given as goal

abbrev pub invariant-loop-member : goal.invariant-loop-member
invariant-loop-member l = given l.members.items ++ drop l.member-index l.params ≡ l.params
