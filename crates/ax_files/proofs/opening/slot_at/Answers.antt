use Rattle.std.proofs.Common.{◌≡◌, OnOk, subst, ◌∙◌}
use Rattle.ax_disk.specs.laws.ReadLaws.{bytes_from-within}
use Rattle.ax_disk.specs.model.Calls.{bytes_from}
use Rattle.ax_frame.specs.RootSlot.{IsSlot}
use Rattle.ax_files.proofs.opening.slot_at.Goals as goal

pub returns-clause-slot : goal.returns-clause-slot
returns-clause-slot g c = λ honest small within.
    let content = g.F.SystemFile.content c.args.root.now in
    let read : c.fill_from.new.buf ≡ bytes_from content c.args.at 16 =
    subst (λ r. OnOk r (c.fill_from.new.buf ≡ bytes_from content c.args.at 16)) c.in_ok-named.ensures.value
    (c.fill_from.ensures.bytes honest small) in
    subst (λ bytes. IsSlot bytes c.read_slot.result) (read ∙ bytes_from-within content c.args.at 16 within)
    c.read_slot.ensures.is
