use Rattle.ax_grammar.proofs.CompleteText.{query_of_complete}
use Rattle.ax_grammar.proofs.SoundText.{query_of_sound}
use Rattle.ax_grammar.proofs.laws.the_reader_finds_the_query.Goals as goal

pub returns : goal.returns
returns c text params tokens lexemes query t =
    (query_of_sound params text tokens lexemes query t, λ q. query_of_complete q t)
