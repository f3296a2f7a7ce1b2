use Rattle.std.proofs.Common.{rules, length, ◌<◌}
use Rattle.ax_frame.specs.Part.{part_value}
use Rattle.ax_frame.proofs.Parts.{are_parts_none, are_parts_more, are_parts_less}
use Rattle.ax_frame.proofs.part.are_parts.Goals as goal

pub returns-in_default-clause-no : goal.returns-in_default-clause-no
returns-in_default-clause-no c is =
    let long : 0 < length c.loop-rest.rest.now = search rules in
    absurd (are_parts_none c.loop-rest.rest.now long c.in_default.ensures.none (c.loop-rest.invariant.1 is))

pub loop-rest-preserved : goal.loop-rest-preserved
loop-rest-preserved c =
    let p = part_value c.in-Some.field-0-0 in (
      λ is. c.loop-rest.invariant.0 (are_parts_more c.loop-rest.rest.now p c.in-Some.after.now c.in-Some.ensures.found is),
      λ is. are_parts_less c.loop-rest.rest.now p c.in-Some.after.now c.in-Some.ensures.found (c.loop-rest.invariant.1 is),
    )
