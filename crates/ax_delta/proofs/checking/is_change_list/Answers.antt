use Rattle.ax_delta.proofs.Listed.{list_of, listing_of}
use Rattle.ax_delta.proofs.checking.is_change_list.Goals as goal

pub returns : goal.returns
returns c = (
  λ h. list_of c.args.count c.args.list.now c.requires (c.is_listing.ensures.0 h),
  λ h. c.is_listing.ensures.1 (listing_of c.args.count c.args.list.now c.requires h),
)
