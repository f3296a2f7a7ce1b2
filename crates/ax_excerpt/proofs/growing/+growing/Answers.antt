-- The part that grew is put back.
use Rattle.std.proofs.Common.{◌≡◌, true, rules}
use Rattle.ax_excerpt.specs.Plain.{is_plain}
use Rattle.ax_excerpt.proofs.Grown.{put_back_grown}
use Rattle.ax_excerpt.proofs.growing.+growing.Goals as goal

pub with_member-returns-in-Ok-clause-grown : goal.with_member-returns-in-Ok-clause-grown
with_member-returns-in-Ok-clause-grown t c =
    let own : is_plain c.args.name.now ≡ true = search rules in
    put_back_grown c.args.parts c.in_ok-parts.field-0.parts.items c.in_ok-parts.field-0.at c.args.name.now
    c.in_ok-parts.field-0.name c.in_ok-parts.field-0.part c.in-Ok.part c.args.steps.now c.closed.result
    c.closed.ensures c.in_ok-parts.ensures.room c.in_ok-parts.ensures.opened c.in-Ok.ensures.grown own
