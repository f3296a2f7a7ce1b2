use Rattle.std.proofs.Common.{sym, subst, ◌∙◌}
use Rattle.ax_area.specs.ItemTexts.{HasPieces}
use Rattle.ax_area.proofs.Pieces.{item_found, item_refused, rest_is, whole_is}
use Rattle.ax_area.proofs.item.split_item.Goals as goal

pub returns-in_default-behind_pieces-clause-none : goal.returns-in_default-behind_pieces-clause-none
returns-in_default-behind_pieces-clause-none c =
    item_refused c.args.bytes.now c.in-Some.behind.now _ c.in-Some.ensures.found
    (λ rest has. c.in_default-behind_pieces.ensures.none rest
    (subst (λ missing. HasPieces c.in-Some.behind.now c.in-Some.first.key missing rest)
    (sym c.missing_after-missing.ensures) has))

pub returns-clause-found : goal.returns-clause-found
returns-clause-found c =
    let behind = c.in-Some.behind.now in
    let there = c.in-Some-behind_pieces.ensures.found in
    let same = rest_is behind _ c.in-Some-behind_pieces.rest.now there.spelled in
    let rest = c.split_at.ensures.back ∙ same in
    let has = subst
    (λ missing. HasPieces behind c.in-Some.first.key missing c.in-Some-behind_pieces.rest.now)
    c.missing_after-missing.ensures there in
    let found = item_found c.args.bytes.now behind c.split_at.result.0.now
    c.split_at.result.1.now _ c.in-Some.ensures.found
    (subst (HasPieces behind c.in-Some.first.key _) (sym rest) has)
    (whole_is behind _ _ _ c.split_at.ensures.front c.split_at.ensures.back) in
    (found.0, record { first = found.1; pieces = found.2 }, found.3)
