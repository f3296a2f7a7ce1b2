use Rattle.std.proofs.Common.{List, ℕ, ap, sym, subst, refl, ◌∙◌, vec_items, length}
use Rattle.ax_pool.specs.Frames.{Frames, IsTaken, bytes_at, with_front}
use Rattle.ax_pool.proofs.Counting.{number_within, shown_at, shown_written}
use Rattle.ax_pool.proofs.pool.Pool.frame_mut.Goals as goal

pub returns : goal.returns
returns g c =
    let frames = c.self.inside.frames.items in
    let number = c.args.number in
    let frame = c.index_mut-frame.result.now in
    let within = number_within frames c.self.inside.taken.items number c.self.invariant.1
    (subst (λ (f : Frames). IsTaken f number) (sym c.self.view_is) c.requires) in
    let is = shown_at frames number frame within ∙ ap vec_items (sym c.index_mut-frame.ensures.value) in
    let view = c.self.view_is in
    let seen = is ∙ sym c.as_mut_slice.ensures.value in (
      (
        refl,
        λ w. ap (λ bytes. record { bytes = bytes; taken = c.self.inside.taken.items }) (shown_written frames number frame w is)
            ∙ ap (λ (f : Frames). with_front f number w) view,
      ),
      record {
        writes = tt;
        value = sym seen ∙ ap (λ (f : Frames). bytes_at f number) view;
        len = c.as_mut_slice.ensures.len ∙ frame.ok.0 ∙ ap (λ (b : List ℕ). length b) (ap vec_items c.index_mut-frame.ensures.value)
            ∙ c.self.invariant.0 number frame within;
      },
    )
