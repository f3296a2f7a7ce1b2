use Rattle.std.proofs.Common.{◌≡◌, ◌∷◌, sym, ◌∙◌}
use Rattle.std.specs.Vec.Iter.{into_iter_items}
use Rattle.ax_keep.proofs.Stepping.{net_step, net_end}
use Rattle.ax_keep.proofs.netting.netted.Goals as goal

pub loop-pair-preserved : goal.loop-pair-preserved
loop-pair-preserved c =
    let remaining : into_iter_items c.loop-pair.pair-iterator ≡ c.in-Some.pair ∷ into_iter_items c.next.new.self = c.in-Some.ensures.steps.0 in
    record {
      next = tt;
      finite = tt;
      made = net_step _ _ _ _ _ _ c.in-Some.pair (into_iter_items c.next.new.self) (into_iter_items c.loop-pair.pair-iterator) _ remaining
          c.in_ok-met.ensures.put c.in_ok-drop_unless.ensures c.loop-pair.invariant.made;
    }

pub returns : goal.returns
returns c =
    net_end _ _ _ (into_iter_items c.loop-pair.pair-iterator) _
    (sym c.loop-pair.pair-iterator.rest.ok.0 ∙ c.in-None.ensures.steps.0) c.in_ok-add_others.ensures c.loop-pair.invariant.made
