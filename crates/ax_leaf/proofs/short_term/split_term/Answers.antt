use Rattle.std.proofs.Common.{length, ◌++◌}
use Rattle.ax_gap.specs.Varint.{varint}
use Rattle.ax_leaf.proofs.ShortTerms.{short_parts, IsPart, part_taken, part_fits, short_from}
use Rattle.ax_leaf.proofs.short_term.split_term.Goals as goal

pub returns-in_err-shared-clause-only : goal.returns-in_err-shared-clause-only
returns-in_err-shared-clause-only c shared part rest h k e =
    absurd (c.in_err-shared.ensures.only shared (varint (length part) ++ (part ++ rest)) h (short_parts c.args.bytes.now shared part rest e))

pub returns-in_err-size-clause-only : goal.returns-in_err-size-clause-only
returns-in_err-size-clause-only c shared part rest h k e =
    let first = c.in_ok-shared.ensures.only shared (varint (length part) ++ (part ++ rest)) h (short_parts c.args.bytes.now shared part rest e) in
    absurd (c.in_err-size.ensures.only (length part) (part ++ rest) k first.1)

pub returns-in_err-rest-clause-only : goal.returns-in_err-rest-clause-only
returns-in_err-rest-clause-only c shared part rest h k e =
    let first = c.in_ok-shared.ensures.only shared (varint (length part) ++ (part ++ rest)) h (short_parts c.args.bytes.now shared part rest e) in
    let second = c.in_ok-size.ensures.only (length part) (part ++ rest) k first.1 in
    absurd (part_fits c.in_ok-size.after.now part rest c.in_ok-size.size second.1 second.0 c.in_err-rest.ensures.cases)

pub returns-clause-found : goal.returns-clause-found
returns-clause-found c =
    let (within, front, back, front_len, back_len) = c.in_ok-rest.ensures.cases in
    short_from c.args.bytes.now _ _ _ _ _ _ c.in_ok-shared.ensures.found c.in_ok-size.ensures.found front back front_len

pub returns-clause-only : goal.returns-clause-only
returns-clause-only c shared part rest h k e =
    let first = c.in_ok-shared.ensures.only shared (varint (length part) ++ (part ++ rest)) h (short_parts c.args.bytes.now shared part rest e) in
    let second = c.in_ok-size.ensures.only (length part) (part ++ rest) k first.1 in
    let (within, front, back, front_len, back_len) = c.in_ok-rest.ensures.cases in
    let split : IsPart part rest c.in_ok-rest.rest.now c.in_ok-rest.after.now =
    part_taken c.in_ok-size.after.now part rest _ _ c.in_ok-size.size second.1 second.0 front back
    in (first.0, split.taken, split.left)
