use Rattle.std.proofs.Common.{map, sym, ◌∙◌, arith}
use Rattle.ax_lex.specs.declared.keyword.Keyword.TheVariants.{Join}
use Rattle.ax_grammar.specs.Takes.Mark.{the_keyword}
use Rattle.ax_grammar.specs.QueryReader.{read_join}
use Rattle.ax_grammar.specs.Reading.{marked}
use Rattle.ax_scope.specs.AsWritten.{joined_of}
use Rattle.ax_parse.specs.Said.{rest_said}
use Rattle.ax_parse.proofs.Seen.{seen-more}
use Rattle.ax_parse.proofs.Turning.{turns-ended, turns-failed, turns-over}
use Rattle.ax_parse.proofs.from.joins.Goals as goal

pub returns-in_err-joined : goal.returns-in_err-joined
returns-in_err-joined c =
    grind (
      arith,
      c.loop-turn.invariant,
      c.in_err-joined.ensures,
      turns-failed (marked (the_keyword Join) read_join)
          c.len-turn-end.result c.loop-turn._turn (map joined_of c.loop-turn.found) (rest_said c.loop-turn.rest)
          (omega arith),
    )

pub returns-in_default : goal.returns-in_default
returns-in_default c =
    sym c.loop-turn.invariant
    ∙ turns-ended (marked (the_keyword Join) read_join) _ _ (map joined_of c.loop-turn.found) _ (omega arith)
    (rw c.in_default.is at c.in_ok-joined.ensures)

pub loop-turn-preserved : goal.loop-turn-preserved
loop-turn-preserved c =
    let e = rw c.in-Some.is at c.in_ok-joined.ensures in
    rw c.in_ok-push.ensures.ok (sym (seen-more joined_of (marked (the_keyword Join) read_join) _ _ c.loop-turn.found
    c.in-Some.joined (rest_said c.loop-turn.rest) (rest_said c.in-Some.after) (omega arith) e)
    ∙ c.loop-turn.invariant)

pub returns : goal.returns
returns c =
    sym c.loop-turn.invariant
    ∙ turns-over (marked (the_keyword Join) read_join) _ (map joined_of c.loop-turn.found) (rest_said c.loop-turn.rest) (omega arith)
