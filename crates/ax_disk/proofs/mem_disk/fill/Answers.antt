use Rattle.std.proofs.Common.{◌≡◌, ◌-◌, min, length, take, drop, ◌∙◌, ap, arith}
use Rattle.ax_disk.proofs.Filled.{filled_buffer}
use Rattle.ax_disk.proofs.mem_disk.fill.Goals as goal

pub returns : goal.returns
returns c =
    let list = c.args.list.now in
    let buffer = c.args.buf.now in
    let start = c.min-start.result in
    let count = c.min-count.result in
    let start_is : start ≡ min c.args.at (length list) = c.min-start.ensures in
    let count_is : count ≡ min (length buffer) (length list - start) = c.min-count.ensures in
    let copied_is : c.copy_from_slice.new.self ≡ take count (drop start list) =
    c.copy_from_slice.ensures.after ∙ ap (λ n. take n (drop start list)) (omega arith) in
    filled_buffer list buffer c.copy_from_slice.new.self c.fill.new.self c.args.at start count start_is count_is copied_is (c.fill.ensures.after (λ y is. is))
