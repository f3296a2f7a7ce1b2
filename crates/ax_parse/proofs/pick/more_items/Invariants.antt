use Rattle.std.proofs.Common.{◌≡◌, ◌-◌, map}
use Rattle.ax_lex.specs.declared.symbol.Symbol.TheVariants.{Comma}
use Rattle.ax_grammar.specs.Takes.Mark.{the_symbol}
use Rattle.ax_grammar.specs.QueryReader.{read_item}
use Rattle.ax_grammar.specs.Reading.{repeated, all_turns, marked}
use Rattle.ax_scope.specs.AsWritten.{item_of}
use Rattle.ax_parse.specs.Said.{rest_said}
use Rattle.ax_parse.proofs.Turning.{before}
use Rattle.ax_parse.proofs.pick.more_items.Given as goal

abbrev pub invariant-loop-turn : goal.invariant-loop-turn
invariant-loop-turn l =
    let turn = marked (the_symbol Comma) (read_item l.parser.params.now) in
    before (map item_of l.found) (repeated turn (l._turn-end - l._turn) (rest_said l.rest))
    ≡ all_turns turn (rest_said l.lexemes)
