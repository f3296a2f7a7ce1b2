-- What was added is the move of that document.
use Rattle.std.proofs.Common.{◌∷◌, [], ◌++◌, Some, refl, ap, subst, ◌∙◌}
use Rattle.ax_store.specs.Batch.{batch_parts}
use Rattle.ax_write.specs.Batches.{document_part}
use Rattle.ax_write.specs.Exchanged.{IsExchanged}
use Rattle.ax_transform.proofs.moves.Moves.add.Goals as goal

pub returns : goal.returns
returns c = λ honest contents stored there policy text.
    let tree = c.args.held.now.tree in
    record {
      move = record { number = c.args.number; policy = c.args.held.now.policy; tree = tree; changes = c.in-Ok.changes.items };
      number_is = refl;
      is = record {
        stored = stored;
        held = there;
        policy = policy;
        text = λ trusted. (text trusted).document;
        storable = c.requires.storable;
        exchanged = subst
            (λ now. IsExchanged c.args.table.now c.args.number c.args.held.now.policy (Some tree) now (Some tree) c.in-Ok.changes.items)
            c.now-now.ensures.current c.in-Ok.ensures;
      };
      parts = c.in_ok-add_document.ensures
          ∙ ap (λ now. batch_parts c.args.self.now.batch ++ document_part c.args.number now tree ∷ []) c.now-now.ensures.current;
      changes = c.in_ok-append.ensures.items;
      policies = c.in_ok-push.ensures.items;
      last = refl;
    }
