use Rattle.std.proofs.Common.{arith}
use Rattle.std.proofs.lemmas.Bool.{false≢true}
use Rattle.ax_leaf.proofs.InListing.{listed_none, no_first, first_shares, listed_behind}
use Rattle.ax_leaf.proofs.listing.is_listing.Goals as goal

pub returns-then-count-eq0 : goal.returns-then-count-eq0
returns-then-count-eq0 g c =
    let none = listed_none g.L.Listed.Begins c.args.count c.args.list.now (omega arith) in
    (λ h. none.0 (c.is_end.ensures.0 h), λ h. c.is_end.ensures.1 (none.1 h))

pub returns-in_default : goal.returns-in_default
returns-in_default g c = (
  λ h. absurd (false≢true h),
  λ h. absurd (no_first g.L.Listed.Begins c.args.count c.args.list.now (omega arith) c.in_default.ensures.only h),
)

pub returns-then-first-ne0 : goal.returns-then-first-ne0
returns-then-first-ne0 g c = (
  λ h. absurd (false≢true h),
  λ h. absurd (c.if-first-ne0.true (first_shares g.L.Listed.Begins c.args.count c.args.list.now c.in-Some.first.shared c.in-Some.first.rest.now
      c.in-Some.rest.now (omega arith) c.in-Some.ensures.only h)),
)

pub returns : goal.returns
returns g c =
    let both =
    listed_behind g.L.Listed.Begins c.args.count c.args.list.now c.in-Some.first.shared c.in-Some.first.rest.now c.in-Some.rest.now (omega arith) (omega arith)
    c.in-Some.ensures.found c.in-Some.ensures.only
    in
    (λ h. both.0 (c.are_others.ensures.0 h), λ h. c.are_others.ensures.1 (both.1 h))
