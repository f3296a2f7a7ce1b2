-- The entry of the id was put at its place.
use Rattle.std.proofs.Common.{◌≡◌, ◌∙◌, ◌≤◌, ap, arith, length, inr, set, Some}
use Rattle.std.specs.Vec.{with_items}
use Rattle.std.proofs.lemmas.List.{length-set, with_items_is}
use Rattle.std.specs.List.{Contains}
use Rattle.ax_recent.specs.Hash.{place_of}
use Rattle.ax_recent.specs.Table.{entries_of, id_of}
use Rattle.ax_recent.proofs.Places.{short}
use Rattle.ax_recent.proofs.Putting.{put_only, put_there}
use Rattle.ax_recent.proofs.recent_ids.RecentIds.put.Goals as goal

made : (c : goal.After-self-1) → (with_items c.self.inside.places c.put_entry.new.places).items
    ≡ set c.self.inside.places.items (place_of (id_of c.in-Some.entry) (length c.self.inside.places.items)) (Some c.in-Some.entry)
made c =
    let put = rw c.deref_mut.ensures.value at c.put_entry.ensures in
    let size : length c.put_entry.new.places ≡ c.self.inside.places.len =
    omega (
      arith,
      ap length put,
      length-set c.self.inside.places.items
          (place_of (id_of c.in-Some.entry) (length c.self.inside.places.items)) (Some c.in-Some.entry),
    ) in
    with_items_is c.self.inside.places c.put_entry.new.places size ∙ put

pub returns-in-Some-clause-put : goal.returns-in-Some-clause-put
returns-in-Some-clause-put c = λ few.
    put_there c.self.inside.places.items c.in-Some.entry c.self.invariant
    (with_items c.self.inside.places c.put_entry.new.places).items (made c) (c.args.id.now, c.args.number) c.in-Some.ensures.entry

pub returns-in-Some-clause-only : goal.returns-in-Some-clause-only
returns-in-Some-clause-only c =
    rw (← c.self.view_is) (put_only c.self.inside.places.items c.in-Some.entry c.self.invariant
    (with_items c.self.inside.places c.put_entry.new.places).items (made c) (c.args.id.now, c.args.number) c.in-Some.ensures.entry)

pub returns-in_default-clause-only : goal.returns-in_default-clause-only
returns-in_default-clause-only c =
    λ entry has.
    let there : Contains (entries_of c.self.inside.places.items) entry = rw c.self.view_is has in
    let few : length entry.0 ≤ 30 = short c.self.inside.places.items entry there in
    inr (has, λ (same : entry.0 ≡ c.args.id.now). omega (arith, few, ap length same, c.in_default.ensures.none))
