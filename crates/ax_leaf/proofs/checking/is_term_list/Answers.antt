use Rattle.ax_leaf.proofs.Listed.{list_of, listing_of}
use Rattle.ax_leaf.proofs.checking.is_term_list.Goals as goal

pub returns : goal.returns
returns c =
    (λ h. list_of c.args.count c.args.list.now (c.is_listing.ensures.0 h), λ h. c.is_listing.ensures.1 (listing_of c.args.count c.args.list.now h))
