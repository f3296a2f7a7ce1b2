use Rattle.ax_leaf.proofs.InListing.{IsUnderWay}
use Rattle.ax_leaf.proofs.listing.are_others.Given as goal

abbrev pub invariant-loop-k : goal.invariant-loop-k
invariant-loop-k g l = IsUnderWay g.L.Listed.Begins l.list l.first.rest.now l.behind l.rest l.front l.count l.k l.size
