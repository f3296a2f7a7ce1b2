use Rattle.std.proofs.Common.{◌≡◌, ℕ, arith, subst}
use Rattle.ax_leaf.specs.Listing.{Reaches}
use Rattle.ax_leaf.proofs.InListing.{walk_start, walk_step, walk_cut}
use Rattle.ax_leaf.proofs.listing.far_byte_behind.Goals as goal

pub loop-k-init : goal.loop-k-init
loop-k-init g c = walk_start g.L.Listed.Begins c.args.list.now c.args.position

pub loop-k-preserved : goal.loop-k-preserved
loop-k-preserved g c =
    walk_step g.L.Listed.Begins c.args.list.now c.loop-k.rest.now c.loop-k._k c.loop-k.byte c.args.position c.in-Some.term.shared c.in-Some.term.rest.now
    c.in-Some.after.now _ c.loop-k.invariant c.in-Some.ensures.only c.byte_with-byte.ensures

pub returns-in_default : goal.returns-in_default
returns-in_default g c = λ term rest h.
    absurd (walk_cut g.L.Listed.Begins c.args.list.now c.loop-k.rest.now c.loop-k._k c.loop-k.byte c.args.position c.args.count c.loop-k.invariant
    c.in_default.ensures.only (omega arith) term rest h)

pub returns : goal.returns
returns g c = λ term rest h.
    let over : c.args.count ≡ c.loop-k._k = omega arith in
    (c.loop-k.invariant term rest (subst (λ (n : ℕ). Reaches g.L.Listed.Begins c.args.list.now n term rest) over h)).1
