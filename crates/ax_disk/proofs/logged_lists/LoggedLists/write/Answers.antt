use Rattle.std.proofs.Common.{◌≤◌, length, take, refl, ◌∙◌, ap, subst, arith}
use Rattle.std.proofs.lemmas.List.{length-take, get_or-take, take_all}
use Rattle.ax_disk.specs.model.Image.{Image, list_of}
use Rattle.ax_disk.specs.mem_disk.Lists.{image_of, greatest_length}
use Rattle.ax_disk.specs.model.Pending.{AreBytes}
use Rattle.ax_disk.specs.mem_disk.OperationLog.{wrote, with_operation}
use Rattle.ax_disk.specs.mem_disk.OperationList.{operations_in}
use Rattle.ax_disk.specs.mem_disk.LoggedLists.{log_of, reads_may_stay}
use Rattle.ax_disk.proofs.Effects.{writes_done, writes_failed}
use Rattle.ax_disk.proofs.Matching.{match_as, match_write, longest_after_write}
use Rattle.ax_disk.proofs.logged_lists.LoggedLists.write.Goals as goal

pub invariant_of-self-clause-matching : goal.invariant_of-self-clause-matching
invariant_of-self-clause-matching c =
    let m = c.args.self.now in
    let part = take c.args.done c.args.bytes.now in
    let within : c.args.at ≤ length (list_of c.args.ext (image_of m.current)) =
    subst
    (λ (image : Image). c.args.at ≤ length
    (list_of c.args.ext image)) m.matching.reads c.requires.offset in
    let short : length part ≤ length c.args.bytes.now =
    omega (arith, length-take c.args.done c.args.bytes.now) in
    let fit : AreBytes part =
    λ i below. omega (
      arith,
      get_or-take c.args.done c.args.bytes.now i 0
          (omega (arith, length-take c.args.done c.args.bytes.now)),
      c.type_inv.bytes i,
    ) in
    match_as _ _ _ _ _ _ _ c.add_write.ensures.added c.write.ensures.written refl
    (match_write (log_of m) (image_of m.current) (image_of m.stable) c.args.ext c.args.at
    (length c.args.bytes.now) part m.matching within short fit)

pub invariant_of-self-clause-has_room : goal.invariant_of-self-clause-has_room
invariant_of-self-clause-has_room c =
    let m = c.args.self.now in
    let part = take c.args.done c.args.bytes.now in
    let within : c.args.at ≤ length (list_of c.args.ext (image_of m.current)) =
    subst
    (λ (image : Image). c.args.at ≤ length
    (list_of c.args.ext image)) m.matching.reads c.requires.offset in
    let short : length part ≤ length c.args.bytes.now =
    omega (arith, length-take c.args.done c.args.bytes.now) in
    let longest =
    longest_after_write c.args.ext (image_of m.current) c.args.at part
    (length c.args.bytes.now) within short in
    let long = ap greatest_length c.write.ensures.written in
    record {
      first_room = m.has_room.first_room;
      current_room = omega (arith, m.has_room.current_room, c.write.ensures.room);
      stable_room = m.has_room.stable_room;
      current_length = omega (arith, m.has_room.current_length, longest, long, c.requires.room);
      stable_length = omega (arith, m.has_room.stable_length);
      bytes = omega (arith, m.has_room.bytes, c.add_write.ensures.bytes, short);
    }

pub returns-clause-succeeded : goal.returns-clause-succeeded
returns-clause-succeeded c =
    let m = c.args.self.now in
    let bytes = c.args.bytes.now in
    λ whole.
    let all = take_all c.args.done bytes (omega (arith, whole)) in
    let added =
    ap (λ operations. record
    { first = image_of m.first; operations = operations }) c.add_write.ensures.added in
    writes_done c.args.ext c.args.at bytes (tt {0}) (log_of m) _
    (added
    ∙ ap
    (λ part. with_operation (wrote c.args.ext c.args.at (length bytes) part) (log_of m)) all)

pub returns-clause-failed : goal.returns-clause-failed
returns-clause-failed c =
    let m = c.args.self.now in
    let bytes = c.args.bytes.now in
    let part = take c.args.done bytes in
    let short : length part ≤ length bytes = omega (arith, length-take c.args.done bytes) in
    let fit : AreBytes part =
    λ i below. omega (
      arith,
      get_or-take c.args.done bytes i 0
          (omega (arith, length-take c.args.done bytes)),
      c.type_inv.bytes i,
    ) in
    let added =
    ap (λ operations. record
    { first = image_of m.first; operations = operations }) c.add_write.ensures.added in
    writes_failed c.args.ext c.args.at bytes part (record {}) (log_of m)
    (record { first = image_of m.first; operations = operations_in c.add_write.new.self }) added
    (reads_may_stay m) c.requires.offset short fit
