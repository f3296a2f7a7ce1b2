use Rattle.std.proofs.Common.{rules, arith, drop, length, ◌-◌}
use Rattle.std.proofs.lemmas.List.{length-take, length-drop}
use Rattle.ax_files.proofs.Reading.{piece_added}
use Rattle.ax_files.proofs.store_file.read_up_to_end.Goals as goal

pub loop-filled-preserved : goal.loop-filled-preserved
loop-filled-preserved g c =
    let buffer = c.loop-filled.buf in
    let filled = c.loop-filled.filled in
    let room = length buffer - filled in
    let fits = c.in_ok-count.ensures.bound in
    let same = c.read_uninterrupted.auto.buf in
    record {
      within = search rules;
      same_len = search rules;
      told = λ honest. piece_added (g.F.SystemFile.content c.args.file.now) buffer c.read_uninterrupted.new.buf (drop room (drop filled buffer)) c.args.at filled c.in_ok-count.count c.loop-filled.invariant.within
          (omega (arith, fits, same, length-take room (drop filled buffer), length-drop filled buffer))
          (c.loop-filled.invariant.told honest) (c.in_ok-count.ensures.piece honest);
    }
