-- What is read at the id's place is what the table says of the id.
use Rattle.std.specs.Option.{IfNone}
use Rattle.std.proofs.Common.{ℕ, Option, Some, None, ◌≡◌, ◌∙◌, ap, arith, length}
use Rattle.std.proofs.lemmas.Option.{IfSome_then}
use Rattle.ax_recent.specs.Hash.{place_of}
use Rattle.ax_recent.proofs.AtPlace.{absent_there, found_there}
use Rattle.ax_recent.proofs.recent_ids.RecentIds.get.Goals as goal

none_then : {P Q : Type 0} (found : Option ℕ) → IfNone found P → (P → Q) → IfNone found Q
none_then None p then = then p
none_then (Some number) p then = tt

own : (c : goal.After-number_in) → c.place_of-place.result ≡ place_of c.args.id.now (length c.self.inside.places.items)
own c =
    let size : c.len.result ≡ length c.self.inside.places.items = omega arith in
    c.place_of-place.ensures.place ∙ ap (place_of c.args.id.now) size

pub returns-clause-found : goal.returns-clause-found
returns-clause-found c =
    rw (← c.self.view_is) (IfSome_then c.number_in.result c.number_in.ensures.found
    (found_there c.self.inside.places.items c.args.id.now c.place_of-place.result (own c) c.self.invariant c.index.result.now c.index.ensures))

pub returns-clause-none : goal.returns-clause-none
returns-clause-none c =
    rw (← c.self.view_is) (none_then c.number_in.result c.number_in.ensures.none
    (absent_there c.self.inside.places.items c.args.id.now c.place_of-place.result (own c) c.self.invariant c.index.result.now c.index.ensures))
