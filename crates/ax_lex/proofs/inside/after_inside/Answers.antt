use Rattle.std.proofs.Common.{◌≡◌, length, ◌+◌, ◌-◌, ap, sym, ◌∙◌, arith}
use Rattle.ax_lex.specs.Reading.{piece_bytes, read_inside}
use Rattle.ax_lex.proofs.Texts.{step_empty, step_closed, step_broken, step_more, rest_of, rest_behind, inside_over}
use Rattle.ax_lex.proofs.inside.after_inside.Goals as goal

pub returns-in_err-byte : goal.returns-in_err-byte
returns-in_err-byte c =
    rw c.from_residual.ensures
    (ap rest_of (sym (step_empty c.args.quote _ c.loop-turn.rest.now c.in_err-byte.ensures.cases))
    ∙ c.loop-turn.invariant)

pub returns-then-byte-quote : goal.returns-then-byte-quote
returns-then-byte-quote c =
    ap rest_of (sym (step_closed c.args.quote _ _ _ _ c.in_ok-byte.ensures.cases.0
    (omega arith) c.if-byte-quote.true)) ∙ c.loop-turn.invariant

pub returns-in_err-after : goal.returns-in_err-after
returns-in_err-after c =
    rw c.from_residual-in_err-after.ensures
    (ap rest_of (sym (step_broken c.args.quote _ _ _ _ c.in_ok-byte.ensures.cases.0 c.if-byte-quote.false
    c.in_err-after.ensures)) ∙ c.loop-turn.invariant)

pub loop-turn-preserved : goal.loop-turn-preserved
loop-turn-preserved c =
    let next = c.in_ok-after.after.now in
    let less = length c.args.bytes.now - (c.loop-turn._turn + 1) in
    sym (rest_behind (piece_bytes c.in_ok-after.field-0-0) (read_inside c.args.quote less next))
    ∙ ap rest_of (sym (step_more c.args.quote _ less _ _ _ _ next c.in_ok-byte.ensures.cases.0
    (omega arith) c.if-byte-quote.false c.in_ok-after.ensures))
    ∙ c.loop-turn.invariant

pub returns : goal.returns
returns c =
    let over : length c.args.bytes.now - c.loop-turn._turn ≡ 0 = omega arith in
    sym (ap rest_of (ap (λ k. read_inside c.args.quote k c.loop-turn.rest.now) over
    ∙ inside_over c.args.quote c.loop-turn.rest.now)) ∙ c.loop-turn.invariant
