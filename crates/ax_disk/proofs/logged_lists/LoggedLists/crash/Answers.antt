use Rattle.std.proofs.Common.{◌≤◌, max, if◌then◌else◌, Bool, true, false, ◌∙◌, ap, subst, arith}
use Rattle.ax_disk.specs.model.Image.{Image}
use Rattle.ax_disk.specs.mem_disk.Lists.{image_of, IsOfBytes, greatest_length}
use Rattle.ax_disk.proofs.Matching.{match_anew}
use Rattle.ax_disk.proofs.logged_lists.LoggedLists.crash.Goals as goal

shorter : (keep : Bool) (x y : Image)
    → greatest_length (if keep then x else y) ≤ max (greatest_length x) (greatest_length y)
shorter true x y = omega arith
shorter false x y = omega arith

pub invariant_of-self-clause-matching : goal.invariant_of-self-clause-matching
invariant_of-self-clause-matching c =
    let m = c.args.self.now in
    let chosen = if c.args.keep then image_of m.current else image_of m.stable in
    let first = c.set.ensures.same ∙ c.settle.ensures.current in
    let fit : IsOfBytes chosen = subst IsOfBytes first c.set.ensures.fit in
    match_anew chosen _ _ _ _ fit c.clear.ensures.empty first c.settle.ensures.current c.settle.ensures.stable

pub invariant_of-self-clause-has_room : goal.invariant_of-self-clause-has_room
invariant_of-self-clause-has_room c =
    let m = c.args.self.now in
    let chosen = shorter c.args.keep (image_of m.current) (image_of m.stable) in
    let current = ap greatest_length c.settle.ensures.current in
    let stable = ap greatest_length c.settle.ensures.stable in
    record {
      first_room = omega (arith, m.has_room.first_room, c.set.ensures.room);
      current_room = omega (arith, m.has_room.current_room, c.settle.ensures.current_room);
      stable_room = omega (arith, m.has_room.stable_room, c.settle.ensures.stable_room);
      current_length =
          omega (arith, m.has_room.current_length, m.has_room.stable_length, chosen, current);
      stable_length =
          omega (arith, m.has_room.current_length, m.has_room.stable_length, chosen, stable);
      bytes = omega (arith, m.has_room.bytes, c.clear.ensures.bytes);
    }
