use Rattle.std.proofs.Common.{refl, ap, arith}
use Rattle.ax_disk.specs.mem_disk.Lists.{image_of, greatest_length}
use Rattle.ax_disk.specs.mem_disk.LoggedLists.{log_of, reads_may_stay}
use Rattle.ax_disk.proofs.Effects.{syncs_done}
use Rattle.ax_disk.proofs.Matching.{match_as, match_sync}
use Rattle.ax_disk.proofs.logged_lists.LoggedLists.sync.Goals as goal

pub invariant_of-self-clause-matching : goal.invariant_of-self-clause-matching
invariant_of-self-clause-matching c =
    let m = c.args.self.now in
    match_as _ _ _ _ _ _ _ c.add_sync.ensures.added refl c.set.ensures.same
    (match_sync (log_of m) (image_of m.current) (image_of m.stable) m.matching)

pub invariant_of-self-clause-has_room : goal.invariant_of-self-clause-has_room
invariant_of-self-clause-has_room c =
    let m = c.args.self.now in
    let long = ap greatest_length c.set.ensures.same in
    record {
      first_room = m.has_room.first_room;
      current_room = m.has_room.current_room;
      stable_room = omega (arith, m.has_room.stable_room, c.set.ensures.room);
      current_length = m.has_room.current_length;
      stable_length = omega (arith, m.has_room.current_length, long);
      bytes = omega (arith, m.has_room.bytes, c.add_sync.ensures.bytes);
    }

pub returns-clause-succeeded : goal.returns-clause-succeeded
returns-clause-succeeded c =
    let m = c.args.self.now in
    let added =
    ap (λ operations. record
    { first = image_of m.first; operations = operations }) c.add_sync.ensures.added in
    syncs_done (tt {0}) (log_of m) _ added (reads_may_stay m)
