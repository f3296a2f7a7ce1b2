use Rattle.std.proofs.Common.{◌≡◌, ◌+◌, ap, subst, arith}
use Rattle.ax_disk.specs.mem_disk.Lists.{image_of, IsOfBytes, greatest_length}
use Rattle.ax_disk.proofs.Matching.{match_anew}
use Rattle.ax_disk.proofs.logged_lists.LoggedLists.make.Goals as goal

pub invariant_of-result-clause-matching : goal.invariant_of-result-clause-matching
invariant_of-result-clause-matching c =
    let image = image_of c.args.lists in
    let fit : IsOfBytes image =
    subst IsOfBytes c.in_ok-first.ensures.same c.in_ok-first.ensures.fit in
    match_anew image _ _ _ _ fit c.in_ok-make.ensures.empty c.in_ok-first.ensures.same c.reserve.ensures.same c.in_ok-stable.ensures.same

pub invariant_of-result-clause-has_room : goal.invariant_of-result-clause-has_room
invariant_of-result-clause-has_room c =
    let longest : c.in_ok-limit.limit ≡ greatest_length (image_of c.args.lists) + c.args.room =
    c.in_ok-limit.ensures in
    let stable : greatest_length (image_of c.in_ok-stable.stable)
    ≡ greatest_length (image_of c.args.lists) =
    ap greatest_length c.in_ok-stable.ensures.same in
    let current : greatest_length (image_of c.reserve.new.self)
    ≡ greatest_length (image_of c.args.lists) = ap greatest_length c.reserve.ensures.same in
    record {
      first_room = c.in_ok-first.ensures.room;
      current_room = c.in_ok-reserve.ensures.room;
      stable_room = c.in_ok-stable.ensures.room;
      current_length = omega arith;
      stable_length = omega arith;
      bytes = c.in_ok-make.ensures.bytes;
    }
