use Rattle.std.proofs.Common.{◌∷◌, [], ◌++◌, ◌∙◌, ap, List, ℕ}
use Rattle.ax_pairs.proofs.Leading.{delta_part}
use Rattle.ax_store.specs.Batch.{batch_parts}
use Rattle.ax_index.proofs.PutLemmas.{one_put}
use Rattle.ax_index.proofs.parts.put_deltas.Goals as goal

pub returns-then-len-le-MOST_PAYLOAD-clause-put : goal.returns-then-len-le-MOST_PAYLOAD-clause-put
returns-then-len-le-MOST_PAYLOAD-clause-put c = λ now there.
    one_put c.args.page c.args.changes.now now c.in_ok-payload.payload.items _ _ there c.requires.rise c.in_ok-payload.ensures
    (c.in_ok-put_part.ensures
    ∙ ap (λ (bytes : List ℕ). batch_parts c.args.batch.now ++ delta_part c.args.page bytes ∷ []) c.as_slice.ensures.value)
