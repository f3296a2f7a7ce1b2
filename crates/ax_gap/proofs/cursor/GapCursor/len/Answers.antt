use Rattle.std.proofs.Common.{◌∙◌, ap, length}
use Rattle.ax_gap.specs.Remaining.{RemainingGaps}
use Rattle.ax_gap.proofs.CursorLaws.{counted}
use Rattle.ax_gap.proofs.cursor.GapCursor.len.Goals as goal

pub returns : goal.returns
returns c =
    counted c.self.inside.count c.self.inside.least c.self.inside.bytes.now c.self.invariant.reads
    ∙ ap (λ (v : RemainingGaps). length v.numbers) c.self.view_is
