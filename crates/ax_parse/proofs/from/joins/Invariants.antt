use Rattle.std.proofs.Common.{◌≡◌, ◌-◌, map}
use Rattle.ax_lex.specs.declared.keyword.Keyword.TheVariants.{Join}
use Rattle.ax_grammar.specs.Takes.Mark.{the_keyword}
use Rattle.ax_grammar.specs.QueryReader.{read_join}
use Rattle.ax_grammar.specs.Reading.{repeated, all_turns, marked}
use Rattle.ax_scope.specs.AsWritten.{joined_of}
use Rattle.ax_parse.specs.Said.{rest_said}
use Rattle.ax_parse.proofs.Turning.{before}
use Rattle.ax_parse.proofs.from.joins.Given as goal

abbrev pub invariant-loop-turn : goal.invariant-loop-turn
invariant-loop-turn l =
    let turn = marked (the_keyword Join) read_join in
    before (map joined_of l.found) (repeated turn (l._turn-end - l._turn) (rest_said l.rest))
    ≡ all_turns turn (rest_said l.lexemes)
