use Rattle.std.proofs.Common.{◌∷◌, [], ◌++◌, ◌∙◌, ap, arith, length, List, ℕ}
use Rattle.ax_pairs.proofs.Leading.{delta_part}
use Rattle.ax_store.specs.Batch.{batch_parts}
use Rattle.ax_index.proofs.DeltaSizes.{delta_fits}
use Rattle.ax_index.proofs.PutLemmas.{one_put}
use Rattle.ax_index.proofs.parts.put_delta.Goals as goal

pub put_part-requires : goal.put_part-requires
put_part-requires c =
    omega (
      arith,
      ap (λ (bytes : List ℕ). length bytes) c.as_slice.ensures.value,
      delta_fits c.in_ok-payload.payload.items c.args.changes.now c.in_ok-payload.ensures,
      c.requires.fits,
    )

pub returns : goal.returns
returns c = λ now there.
    one_put c.args.page c.args.changes.now now c.in_ok-payload.payload.items _ _ there c.requires.rise c.in_ok-payload.ensures
    (c.in_ok-put_part.ensures
    ∙ ap (λ (bytes : List ℕ). batch_parts c.args.batch.now ++ delta_part c.args.page bytes ∷ []) c.as_slice.ensures.value)
