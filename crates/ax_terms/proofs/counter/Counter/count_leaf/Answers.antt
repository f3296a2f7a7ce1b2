use Rattle.std.proofs.Common.{◌+◌, refl, ap, ◌∙◌}
use Rattle.ax_terms.specs.Counts.{capped}
use Rattle.ax_terms.proofs.CountLaws.{one_more}
use Rattle.ax_terms.proofs.counter.Counter.count_leaf.Goals as goal

pub returns : goal.returns
returns c =
    one_more c.args.self.now _ c.args.at c.args.tree.now
    (record {
      key = c.in_ok-key.key;
      added = c.in_ok-is_new.is_new;
      value = c.size.result;
      path = c.saturating_add-path_size.result;
      size = c.saturating_add-size.result;
      key_is = c.in_ok-key.ensures;
      value_is = c.size.ensures;
      path_is = c.saturating_add-path_size.ensures;
      size_is = c.saturating_add-size.ensures ∙ ap (λ n. capped (n + c.size.result)) c.saturating_add.ensures;
      numbers = refl;
      updates = c.in_ok-is_new.ensures.updates;
      added_is = c.in_ok-is_new.ensures.added;
      counts_are = c.counts_with-self.ensures;
    })
