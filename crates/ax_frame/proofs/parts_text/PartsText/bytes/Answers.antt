use Rattle.std.proofs.Common.{subst, ap, ◌∙◌}
use Rattle.ax_frame.specs.Part.{AllFit, parts_bytes}
use Rattle.ax_frame.proofs.Parts.{fit_of, spelled_of}
use Rattle.ax_frame.proofs.parts_text.PartsText.bytes.Goals as goal

pub returns-clause-spelled : goal.returns-clause-spelled
returns-clause-spelled c = c.deref.ensures.value ∙ spelled_of c.self.inside.bytes.items c.self.invariant ∙ ap parts_bytes c.self.view_is

pub returns-clause-fit : goal.returns-clause-fit
returns-clause-fit c = subst AllFit c.self.view_is (fit_of c.self.inside.bytes.items c.self.invariant)
