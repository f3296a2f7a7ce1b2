use Rattle.std.proofs.Common.{length, ap, ◌∙◌}
use Rattle.ax_frame.specs.Part.{parts_bytes}
use Rattle.ax_frame.proofs.Parts.{spelled_of}
use Rattle.ax_frame.proofs.log_frame.FrameParts.remaining_len.Goals as goal

pub returns : goal.returns
returns c = ap length (spelled_of c.self.inside.bytes.now c.self.invariant) ∙ ap (λ ps. length (parts_bytes ps)) c.self.view_is
