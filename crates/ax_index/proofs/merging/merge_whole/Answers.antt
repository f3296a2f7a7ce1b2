use Rattle.std.proofs.Common.{◌≡◌, refl}
use Rattle.ax_store.specs.Store.{store_contents}
use Rattle.ax_index.proofs.MergingLemmas.{stuck_whole, whole_planned}
use Rattle.ax_index.proofs.Unmoved.{same_terms}
use Rattle.ax_index.proofs.merging.merge_whole.Goals as goal

pub returns-in-Ok-rewrite_list-clause-merged : goal.returns-in-Ok-rewrite_list-clause-merged
returns-in-Ok-rewrite_list-clause-merged g c = λ now earlier up next done.
    let same : (store_contents c.folded.new.store).terms ≡ (store_contents c.args.store.now).terms =
    same_terms _ _ c.in-Ok.ensures.reads.same.same
    in
    whole_planned c.args.page (store_contents c.args.store.now).terms
    (store_contents c.folded.new.store).terms now earlier _ _ c.args.next.now c.rewrite_list.new.next c.in-Ok.pairs
    c.in-Ok.pairs c.requires.page up next same refl (λ told some has_some p. (c.in-Ok.ensures.has told some has_some).same p refl)
    (c.in-Ok-rewrite_list.ensures.belong done) (λ there low all. c.in-Ok-rewrite_list.ensures.rewritten now next there low all done)

pub returns-in-Ok-rewrite_list-clause-stuck : goal.returns-in-Ok-rewrite_list-clause-stuck
returns-in-Ok-rewrite_list-clause-stuck g c = λ told set index done pairs has_pairs.
    let same : (store_contents c.folded.new.store).terms ≡ (store_contents c.args.store.now).terms =
    same_terms _ _ c.in-Ok.ensures.reads.same.same
    in
    stuck_whole (store_contents c.args.store.now).terms
    (store_contents c.folded.new.store).terms set c.args.page c.args.next.now c.in-Ok.pairs c.in-Ok.pairs pairs index
    c.requires.page same refl c.in-Ok.ensures.rise (λ some has_some p. (c.in-Ok.ensures.has told some has_some).same p refl) has_pairs
    (c.in-Ok-rewrite_list.ensures.full done)
