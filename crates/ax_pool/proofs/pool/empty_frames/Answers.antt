use Rattle.std.proofs.Common.{◌≡◌, [], ◌∷◌, ap, sym, subst, length, All, length-append, arith}
use Rattle.std.proofs.lemmas.List.Elements.{All-push}
use Rattle.ax_pool.specs.Frames.{frame_size}
use Rattle.ax_pool.proofs.pool.empty_frames.Goals as goal

pub loop-preserved : goal.loop-preserved
loop-preserved c =
    record {
      made = omega (arith, ap length c.push_reserved.ensures.items, length-append c.loop.frames.items (c.in_ok-frame.frame ∷ []), c.loop.invariant.made);
      sizes = subst (All (λ frame. length frame.items ≡ frame_size)) (sym c.push_reserved.ensures.items)
          (All-push (λ frame. length frame.items ≡ frame_size) c.loop.frames.items c.in_ok-frame.frame c.loop.invariant.sizes
          (omega (arith, c.in_ok-frame.ensures.len, c.in_ok-frame.frame.ok.0)));
      room = omega (arith, c.loop.invariant.room, c.push_reserved.ensures.capacity);
    }
