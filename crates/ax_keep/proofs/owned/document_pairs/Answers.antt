use Rattle.ax_keep.proofs.Owning.{made_pairs}
use Rattle.ax_keep.proofs.owned.document_pairs.Goals as goal

pub returns : goal.returns
returns c =
    made_pairs c.args.under.now c.args.document.now c.args.number c.in_ok-terms.terms.items _ _ _ c.requires c.in_ok-put_id.ensures
    c.in_ok-pairs.ensures.items c.in_ok-put_terms.ensures c.in_ok-terms.ensures.rising c.in_ok-terms.ensures.exact
