use Rattle.std.proofs.Common.{sym, ◌∙◌}
use Rattle.ax_frame.specs.Part.{part_value}
use Rattle.ax_frame.proofs.Parts.{first_given, none_remains}
use Rattle.ax_frame.proofs.log_frame.FrameParts.next.Goals as goal

pub returns-in_err-part : goal.returns-in_err-part
returns-in_err-part c =
    let nothing = sym c.self.view_is ∙ none_remains c.self.inside.bytes.now c.self.invariant c.in_err-part.ensures.none in
    rw c.from_residual.ensures (nothing, nothing)

pub invariant_of-self : goal.invariant_of-self
invariant_of-self c = (first_given c.self.inside.bytes.now (part_value c.in_ok-part.part) c.in_ok-part.rest.now c.self.invariant c.in_ok-part.ensures.found).spells

pub returns : goal.returns
returns c = sym c.self.view_is ∙ (first_given c.self.inside.bytes.now (part_value c.in_ok-part.part) c.in_ok-part.rest.now c.self.invariant c.in_ok-part.ensures.found).are
