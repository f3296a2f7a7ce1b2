use Rattle.std.proofs.Common.{◌≡◌, map, drop}
use Rattle.ax_grammar.specs.Tables.{spelled}
use Rattle.ax_parse.specs.Callees.{func_spelling, with_spelling}
use Rattle.ax_parse.proofs.callee.spelled_as.Given as goal

abbrev pub invariant-loop-func : goal.invariant-loop-func
invariant-loop-func l =
    spelled l.word (map (with_spelling func_spelling) (drop l.func-index l.funcs))
    ≡ spelled l.word (map (with_spelling func_spelling) l.funcs)
