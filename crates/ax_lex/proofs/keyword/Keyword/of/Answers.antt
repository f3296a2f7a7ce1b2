use Rattle.std.proofs.Common.{ap, sym, ◌∙◌}
use Rattle.std.specs.List.{find}
use Rattle.std.specs.Str.{str_eq_ignore_ascii_case}
use Rattle.ax_lex.specs.Keywords.{spelling}
use Rattle.ax_lex.proofs.KeywordLaws.{keyword_of_length}
use Rattle.ax_lex.proofs.keyword.Keyword.of.Goals as goal

pub returns : goal.returns
returns c =
    let word = c.args.word.now in
    c.spelled_as.ensures ∙ ap (find (λ keyword. str_eq_ignore_ascii_case word
    (spelling keyword))) c.keywords_of.ensures ∙ sym (keyword_of_length word)
