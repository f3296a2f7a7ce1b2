use Rattle.std.proofs.Common.{◌∷◌, ◌++◌, [], refl, ◌∙◌, ap, arith}
use Rattle.ax_disk.specs.mem_disk.Lists.{image_of, greatest_length}
use Rattle.ax_disk.specs.mem_disk.OperationList.{operations_in}
use Rattle.ax_disk.specs.mem_disk.OperationLog.{cut, with_operation}
use Rattle.ax_disk.specs.mem_disk.LoggedLists.{log_of, reads_may_stay}
use Rattle.ax_disk.proofs.Effects.{cuts_done, cuts_failed}
use Rattle.ax_disk.proofs.Matching.{match_as, match_cut, match_no_cut, longest_after_cut}
use Rattle.ax_disk.proofs.logged_lists.LoggedLists.cut.Goals as goal

pub invariant_of-self-clause-matching : goal.invariant_of-self-clause-matching
invariant_of-self-clause-matching c =
    let m = c.args.self.now in
    let added = c.add_cut.ensures.added
    ∙ ap
    (λ done. operations_in m.operations
    ++ cut c.args.ext c.args.len done ∷ []) c.if-done.true in
    match_as _ _ _ _ _ _ _ added c.cut.ensures.cut refl
    (match_cut (log_of m) (image_of m.current) (image_of m.stable) c.args.ext c.args.len m.matching)

pub invariant_of-self-clause-has_room : goal.invariant_of-self-clause-has_room
invariant_of-self-clause-has_room c =
    let m = c.args.self.now in
    let longest = longest_after_cut c.args.ext (image_of m.current) c.args.len in
    let long = ap greatest_length c.cut.ensures.cut in
    record {
      first_room = m.has_room.first_room;
      current_room = omega (arith, m.has_room.current_room, c.cut.ensures.room);
      stable_room = m.has_room.stable_room;
      current_length = omega (arith, m.has_room.current_length, longest, long);
      stable_length = m.has_room.stable_length;
      bytes = omega (arith, m.has_room.bytes, c.add_cut.ensures.bytes);
    }

pub invariant_of-self-else-done-clause-matching : goal.invariant_of-self-else-done-clause-matching
invariant_of-self-else-done-clause-matching c =
    let m = c.args.self.now in
    let added = c.add_cut.ensures.added
    ∙ ap
    (λ done. operations_in m.operations
    ++ cut c.args.ext c.args.len done ∷ []) c.if-done.false in
    match_as _ _ _ _ _ _ _ added refl refl
    (match_no_cut (log_of m) (image_of m.current)
    (image_of m.stable) c.args.ext c.args.len m.matching)

pub invariant_of-self-else-done-clause-has_room : goal.invariant_of-self-else-done-clause-has_room
invariant_of-self-else-done-clause-has_room c =
    let m = c.args.self.now in
    record {
      first_room = m.has_room.first_room;
      current_room = m.has_room.current_room;
      stable_room = m.has_room.stable_room;
      current_length = m.has_room.current_length;
      stable_length = m.has_room.stable_length;
      bytes = omega (arith, m.has_room.bytes, c.add_cut.ensures.bytes);
    }

pub returns-then-done-clause-succeeded : goal.returns-then-done-clause-succeeded
returns-then-done-clause-succeeded c =
    let m = c.args.self.now in
    let added =
    ap (λ operations. record
    { first = image_of m.first; operations = operations }) c.add_cut.ensures.added in
    λ done. cuts_done c.args.ext c.args.len (tt {0}) (log_of m) _
    (added ∙ ap (λ is. with_operation (cut c.args.ext c.args.len is) (log_of m)) done)

pub returns-then-done-clause-failed : goal.returns-then-done-clause-failed
returns-then-done-clause-failed c =
    let m = c.args.self.now in
    let added =
    ap (λ operations. record
    { first = image_of m.first; operations = operations }) c.add_cut.ensures.added in
    cuts_failed c.args.ext c.args.len c.args.done (record {}) (log_of m) _ added (reads_may_stay m)

pub returns-else-done-clause-failed : goal.returns-else-done-clause-failed
returns-else-done-clause-failed c =
    let m = c.args.self.now in
    let added =
    ap (λ operations. record
    { first = image_of m.first; operations = operations }) c.add_cut.ensures.added in
    cuts_failed c.args.ext c.args.len c.args.done (record {}) (log_of m) _ added (reads_may_stay m)
