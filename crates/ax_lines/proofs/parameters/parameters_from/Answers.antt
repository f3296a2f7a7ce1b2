-- One more parameter is read, and put among those before it.
use Rattle.std.proofs.Common.{◌≡◌, ◌∷◌, sym, ◌∙◌}
use Rattle.std.specs.Vec.Iter.{into_iter_items}
use Rattle.ax_lines.proofs.Written.{more}
use Rattle.ax_lines.proofs.parameters.parameters_from.Goals as goal

pub loop-item-preserved : goal.loop-item-preserved
loop-item-preserved c =
    let remaining : into_iter_items c.loop-item.item-iterator
    ≡ c.in-Some.item ∷ into_iter_items c.next.new.self
    = c.in-Some.ensures.steps.0 in
    record {
      next = tt;
      finite = tt;
      made =
          more _ _ _ _ _ c.in-Some.item _ c.loop-item.invariant.made remaining
          (sym c.in_ok-parameter.ensures ∙ c.in-Some-2.is) c.in_ok-put.ensures;
    }
