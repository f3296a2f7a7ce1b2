use Rattle.std.proofs.Common.{ap, sym, ◌∙◌, map}
use Rattle.ax_grammar.specs.Tables.{spelled}
use Rattle.ax_parse.specs.Callees.{func_spelling, with_spelling}
use Rattle.ax_parse.proofs.Names.{func_of_length}
use Rattle.ax_parse.proofs.callee.func_of.Goals as goal

pub returns : goal.returns
returns c =
    let word = c.args.word.now in
    c.spelled_as.ensures ∙ ap (λ fs. spelled word (map (with_spelling func_spelling) fs))
    c.funcs_of.ensures ∙ sym (func_of_length word)
