-- One character on.
use Rattle.std.proofs.Common.{◌∙◌, sym, rules}
use Rattle.std.specs.Str.{chars}
use Rattle.ax_func.proofs.Characters.{drop_next}
use Rattle.ax_func.proofs.chars.after.Goals as goal

pub loop-done-preserved : goal.loop-done-preserved
loop-done-preserved c = (
  search rules,
  drop_next (chars c.args.text.now) (chars c.in-Some.tail.now) c.loop-done.done
      c.in-Some.field-0-0 (sym c.in-Some.ensures.0 ∙ c.loop-done.invariant.1),
)
