use Rattle.std.proofs.Common.{arith}
use Rattle.std.proofs.lemmas.List.{length-take}
use Rattle.ax_files.proofs.Reading.{filled_behind}
use Rattle.ax_files.proofs.store_file.fill_from.Goals as goal

pub returns-clause-bytes : goal.returns-clause-bytes
returns-clause-bytes g c = λ honest small.
    let content = g.F.SystemFile.content c.args.file.now in
    let buffer = c.args.buf.now in
    let reachable = c.min-reachable.result in
    let told = c.in_ok-filled.ensures in
    let least = c.min-reachable.ensures in
    let room = c.saturating_sub.ensures in
    let front = length-take reachable buffer in
    let long = c.read_up_to_end.auto.buf in
    filled_behind content buffer c.read_up_to_end.new.buf c.fill.new.self c.args.at reachable c.in_ok-filled.filled
    (omega (arith, least)) (omega (arith, long, front, least)) (omega (arith, told.bound, front, least))
    (told.read honest)
    (λ less. told.ended honest (omega (arith, less, front, least)))
    (λ less. omega (arith, less, least, room, small))
    (c.fill.ensures.after (λ y is. is))
