use Rattle.std.proofs.Common.{rules, sym, subst}
use Rattle.ax_area.specs.ItemTexts.{IsPiecedTo}
use Rattle.ax_area.proofs.Pieces.{not_begun, none_first, other_first, one_piece_more}
use Rattle.ax_area.proofs.item.behind_pieces.Goals as goal

pub loop-left-init : goal.loop-left-init
loop-left-init c = not_begun c.args.bytes.now c.args.key c.args.missing

pub returns-in_default-clause-none : goal.returns-in_default-clause-none
returns-in_default-clause-none c rest has =
    none_first c.args.key c.loop-left.rest.now c.loop-left.left rest
    (search rules) c.in_default.ensures.none (c.loop-left.invariant.back rest has)

pub returns-then-not-is_piece-clause-none : goal.returns-then-not-is_piece-clause-none
returns-then-not-is_piece-clause-none c rest has =
    other_first c.args.key c.loop-left.rest.now c.loop-left.left _ _ c.in-Some.ensures.found
    (search rules) rest (λ is. absurd (cc (c.is_piece.ensures.1 is, c.if-not-is_piece.true)))
    (c.loop-left.invariant.back rest has)

pub loop-left-preserved : goal.loop-left-preserved
loop-left-preserved c =
    let more = one_piece_more c.args.key c.loop-left.rest.now c.loop-left.left _ _
    c.in-Some.ensures.found (search rules) c.args.bytes.now c.args.missing
    (c.is_piece.ensures.0 c.if-not-is_piece.false) c.loop-left.invariant in
    subst (IsPiecedTo c.args.bytes.now c.args.key c.args.missing c.in-Some.behind.now)
    (sym c.saturating_sub-left.ensures) more
