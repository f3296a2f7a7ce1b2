use Rattle.std.proofs.Common.{◌≡◌, length, ◌+◌, ◌-◌, ap, sym, ◌∙◌, arith}
use Rattle.ax_lex.specs.Reading.{behind, piece_bytes, read_inside}
use Rattle.ax_lex.proofs.Texts.{step_empty, step_closed, step_broken, step_more, behind_behind, behind_none, behind_end, inside_over}
use Rattle.ax_lex.proofs.unescape.unescaped.Goals as goal

pub returns-in_default-clause-refused : goal.returns-in_default-clause-refused
returns-in_default-clause-refused c e =
    sym c.loop-turn.invariant ∙ behind_none c.loop-turn.value.items _
    (step_empty c.args.quote _ c.loop-turn.rest.now c.in_default.ensures.cases)

pub returns-then-byte-quote-clause-ok : goal.returns-then-byte-quote-clause-ok
returns-then-byte-quote-clause-ok c =
    sym c.loop-turn.invariant
    ∙ behind_end c.loop-turn.value.items _ _
    (step_closed c.args.quote _ _ _ _ c.in-Some.ensures.cases.0
    (omega arith) c.if-byte-quote.true)

pub returns-in_default-split_piece-clause-refused : goal.returns-in_default-split_piece-clause-refused
returns-in_default-split_piece-clause-refused c e =
    sym c.loop-turn.invariant
    ∙ behind_none c.loop-turn.value.items _
    (step_broken c.args.quote _ _ _ _ c.in-Some.ensures.cases.0 c.if-byte-quote.false
    c.in_default-split_piece.ensures)

pub loop-turn-preserved : goal.loop-turn-preserved
loop-turn-preserved c =
    let next = c.in-Some-split_piece.after.now in
    let less = length c.args.bytes.now - (c.loop-turn._turn + 1) in
    ap (λ bs. behind bs (read_inside c.args.quote less next)) c.in_ok-push_piece.ensures
    ∙ sym (behind_behind c.loop-turn.value.items (piece_bytes c.in-Some-split_piece.piece)
    (read_inside c.args.quote less next))
    ∙ ap (behind c.loop-turn.value.items) (sym
    (step_more c.args.quote _ less _ _ _ _ next c.in-Some.ensures.cases.0
    (omega arith) c.if-byte-quote.false c.in-Some-split_piece.ensures))
    ∙ c.loop-turn.invariant

pub returns-clause-refused : goal.returns-clause-refused
returns-clause-refused c e =
    let over : length c.args.bytes.now - c.loop-turn._turn ≡ 0 = omega arith in
    sym c.loop-turn.invariant
    ∙ behind_none c.loop-turn.value.items _ (ap
    (λ k. read_inside c.args.quote k c.loop-turn.rest.now) over
    ∙ inside_over c.args.quote c.loop-turn.rest.now)
