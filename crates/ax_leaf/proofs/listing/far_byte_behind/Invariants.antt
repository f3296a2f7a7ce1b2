use Rattle.ax_leaf.proofs.InListing.{IsWalked}
use Rattle.ax_leaf.proofs.listing.far_byte_behind.Given as goal

abbrev pub invariant-loop-k : goal.invariant-loop-k
invariant-loop-k g l = IsWalked g.L.Listed.Begins l.list l._k l.rest l.byte l.position
