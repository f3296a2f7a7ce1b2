-- The place of the id was given to what it held without the id.
use Rattle.std.proofs.Common.{◌≡◌, ◌∙◌, ap, arith, length}
use Rattle.ax_recent.specs.Hash.{place_of}
use Rattle.ax_recent.proofs.AtPlace.{gone_without, others_without}
use Rattle.ax_recent.proofs.recent_ids.RecentIds.remove.Goals as goal

own : (c : goal.After-self-1) → c.place_of-place.result ≡ place_of c.args.id.now (length c.self.inside.places.items)
own c =
    let size : c.len.result ≡ length c.self.inside.places.items = omega arith in
    c.place_of-place.ensures.place ∙ ap (place_of c.args.id.now) size

pub returns-clause-gone : goal.returns-clause-gone
returns-clause-gone c =
    gone_without c.self.inside.places.items c.args.id.now c.place_of-place.result (own c) c.self.invariant
    c.index.result.now c.without.result c.index.ensures c.without.ensures

pub returns-clause-others : goal.returns-clause-others
returns-clause-others c =
    rw (← c.self.view_is) (others_without c.self.inside.places.items c.args.id.now c.place_of-place.result (own c) c.self.invariant
    c.index.result.now c.without.result c.index.ensures c.without.ensures)
