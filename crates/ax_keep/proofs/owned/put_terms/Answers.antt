use Rattle.std.proofs.Common.{◌≡◌, ◌∷◌, sym, ◌∙◌}
use Rattle.std.specs.Vec.Iter.{into_iter_items}
use Rattle.ax_keep.proofs.Owning.{put_step, put_end}
use Rattle.ax_keep.proofs.owned.put_terms.Goals as goal

pub loop-term-preserved : goal.loop-term-preserved
loop-term-preserved c =
    let remaining : into_iter_items c.loop-term.term-iterator ≡ c.in-Some.term ∷ into_iter_items c.next.new.self = c.in-Some.ensures.steps.0 in
    record {
      next = tt;
      finite = tt;
      put = put_step c.args.number _ _ _ c.in-Some.term (into_iter_items c.next.new.self)
          (into_iter_items c.loop-term.term-iterator) remaining c.in_ok-push.ensures.items c.loop-term.invariant.put;
    }

pub returns : goal.returns
returns c =
    put_end c.args.number _ _ (into_iter_items c.loop-term.term-iterator)
    (sym c.loop-term.term-iterator.rest.ok.0 ∙ c.in-None.ensures.steps.0) c.loop-term.invariant.put
