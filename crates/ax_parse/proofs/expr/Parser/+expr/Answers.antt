use Rattle.std.proofs.Common.{sym, ◌∙◌, arith}
use Rattle.ax_lex.specs.declared.symbol.Symbol.TheVariants.{Comma}
use Rattle.ax_grammar.specs.ExprReader.{read_member, turn_chained}
use Rattle.ax_grammar.specs.Levels as grammar
use Rattle.ax_grammar.specs.Reading.{marked}
use Rattle.ax_grammar.specs.Takes.Mark.{the_symbol}
use Rattle.ax_parse.specs.Levels.{level_of, operated_operand, read_at}
use Rattle.ax_parse.specs.Marks.{mark_of}
use Rattle.ax_parse.specs.Said.{rest_said}
use Rattle.ax_parse.proofs.Levels.{by_level, choice_inside, choice_none, denied_inside, denied_none, signed_inside, signed_none}
use Rattle.ax_parse.proofs.Turning.{turns-more, turns-ended, turns-failed, turns-over}
use Rattle.ax_parse.proofs.expr.Parser.+expr.Goals as goal

pub level-returns : goal.level-returns
level-returns t c =
    rw (by_level c.args.self.now.params.now c.args.depth (rest_said c.args.lexemes) c.args.level)
    c.by_level.ensures

pub choice-returns-in-Some : goal.choice-returns-in-Some
choice-returns-in-Some t c =
    rw (choice_inside c.args.self.now.params.now c.args.depth (rest_said c.args.lexemes) _ c.in-Some.ensures)
    c.chosen.ensures

pub choice-returns-in-None : goal.choice-returns-in-None
choice-returns-in-None t c =
    λ e. choice_none c.args.self.now.params.now c.args.depth (rest_said c.args.lexemes) c.in-None.ensures

pub denied-returns-in-Some : goal.denied-returns-in-Some
denied-returns-in-Some t c =
    rw (denied_inside c.args.self.now.params.now c.args.depth (rest_said c.args.lexemes) _ c.in-Some.ensures)
    c.denied_inside.ensures

pub denied-returns-in-None : goal.denied-returns-in-None
denied-returns-in-None t c =
    λ e. denied_none c.args.self.now.params.now c.args.depth (rest_said c.args.lexemes) c.in-None.ensures

pub signed-returns-in-Some : goal.signed-returns-in-Some
signed-returns-in-Some t c =
    rw (signed_inside c.args.self.now.params.now c.args.depth (rest_said c.args.lexemes) c.args.op _ c.in-Some.ensures)
    c.signed_inside.ensures

pub signed-returns-in-None : goal.signed-returns-in-None
signed-returns-in-None t c =
    λ e. signed_none c.args.self.now.params.now c.args.depth (rest_said c.args.lexemes) c.args.op c.in-None.ensures

pub parts-returns-in_err-part : goal.parts-returns-in_err-part
parts-returns-in_err-part t c =
    grind (
      arith,
      c.loop-turn.invariant,
      c.in_err-part.ensures,
      turns-failed (marked (mark_of c.args.mark) (read_at c.args.self.now.params.now c.args.depth (level_of c.args.level)))
          c.len-turn-end.result c.loop-turn._turn c.loop-turn.found (rest_said c.loop-turn.rest)
          (omega arith),
    )

pub parts-returns-in_default : goal.parts-returns-in_default
parts-returns-in_default t c =
    sym c.loop-turn.invariant
    ∙ turns-ended (marked (mark_of c.args.mark) (read_at c.args.self.now.params.now c.args.depth (level_of c.args.level))) _ _ c.loop-turn.found _ (omega arith) (rw c.in_default.is at c.in_ok-part.ensures)

pub parts-loop-turn-preserved : goal.parts-loop-turn-preserved
parts-loop-turn-preserved t c =
    let e = rw c.in-Some.is at c.in_ok-part.ensures in
    rw c.in_ok-push.ensures.ok (sym (turns-more (marked (mark_of c.args.mark) (read_at c.args.self.now.params.now c.args.depth (level_of c.args.level))) _ _ c.loop-turn.found c.in-Some.part (rest_said c.loop-turn.rest) (rest_said c.in-Some.after) (omega arith) e) ∙ c.loop-turn.invariant)

pub parts-returns : goal.parts-returns
parts-returns t c =
    sym c.loop-turn.invariant
    ∙ turns-over (marked (mark_of c.args.mark) (read_at c.args.self.now.params.now c.args.depth (level_of c.args.level))) _ c.loop-turn.found (rest_said c.loop-turn.rest) (omega arith)

pub operands-returns-in_err-operand : goal.operands-returns-in_err-operand
operands-returns-in_err-operand t c =
    grind (
      arith,
      c.loop-turn.invariant,
      c.in_err-operand.ensures,
      turns-failed (turn_chained (level_of (operated_operand c.args.chain)) (read_at c.args.self.now.params.now c.args.depth (level_of (operated_operand c.args.chain))))
          c.len-turn-end.result c.loop-turn._turn c.loop-turn.found (rest_said c.loop-turn.rest)
          (omega arith),
    )

pub operands-returns-in_default : goal.operands-returns-in_default
operands-returns-in_default t c =
    sym c.loop-turn.invariant
    ∙ turns-ended (turn_chained (level_of (operated_operand c.args.chain)) (read_at c.args.self.now.params.now c.args.depth (level_of (operated_operand c.args.chain)))) _ _ c.loop-turn.found _ (omega arith) (rw c.in_default.is at c.in_ok-operand.ensures)

pub operands-loop-turn-preserved : goal.operands-loop-turn-preserved
operands-loop-turn-preserved t c =
    let e = rw c.in-Some.is at c.in_ok-operand.ensures in
    rw c.in_ok-push.ensures.ok (sym (turns-more (turn_chained (level_of (operated_operand c.args.chain)) (read_at c.args.self.now.params.now c.args.depth (level_of (operated_operand c.args.chain)))) _ _ c.loop-turn.found c.in-Some.operand (rest_said c.loop-turn.rest) (rest_said c.in-Some.after) (omega arith) e) ∙ c.loop-turn.invariant)

pub operands-returns : goal.operands-returns
operands-returns t c =
    sym c.loop-turn.invariant
    ∙ turns-over (turn_chained (level_of (operated_operand c.args.chain)) (read_at c.args.self.now.params.now c.args.depth (level_of (operated_operand c.args.chain)))) _ c.loop-turn.found (rest_said c.loop-turn.rest) (omega arith)

pub more_members-returns-in_err-member : goal.more_members-returns-in_err-member
more_members-returns-in_err-member t c =
    grind (
      arith,
      c.loop-turn.invariant,
      c.in_err-member.ensures,
      turns-failed (marked (the_symbol Comma) (read_member (read_at c.args.self.now.params.now c.args.depth grammar.Level.choice)))
          c.len-turn-end.result c.loop-turn._turn c.loop-turn.found (rest_said c.loop-turn.rest)
          (omega arith),
    )

pub more_members-returns-in_default : goal.more_members-returns-in_default
more_members-returns-in_default t c =
    sym c.loop-turn.invariant
    ∙ turns-ended (marked (the_symbol Comma) (read_member (read_at c.args.self.now.params.now c.args.depth grammar.Level.choice))) _ _ c.loop-turn.found _ (omega arith) (rw c.in_default.is at c.in_ok-member.ensures)

pub more_members-loop-turn-preserved : goal.more_members-loop-turn-preserved
more_members-loop-turn-preserved t c =
    let e = rw c.in-Some.is at c.in_ok-member.ensures in
    rw c.in_ok-push.ensures.ok (sym (turns-more (marked (the_symbol Comma) (read_member (read_at c.args.self.now.params.now c.args.depth grammar.Level.choice))) _ _ c.loop-turn.found c.in-Some.member (rest_said c.loop-turn.rest) (rest_said c.in-Some.after) (omega arith) e) ∙ c.loop-turn.invariant)

pub more_members-returns : goal.more_members-returns
more_members-returns t c =
    sym c.loop-turn.invariant
    ∙ turns-over (marked (the_symbol Comma) (read_member (read_at c.args.self.now.params.now c.args.depth grammar.Level.choice))) _ c.loop-turn.found (rest_said c.loop-turn.rest) (omega arith)
