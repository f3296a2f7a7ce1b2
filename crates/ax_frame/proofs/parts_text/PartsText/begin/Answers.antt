use Rattle.std.proofs.Common.{subst, sym, ap, ◌∙◌}
use Rattle.ax_frame.specs.View.{Spells, parts_in}
use Rattle.ax_frame.proofs.Parts.{nothing_seen}
use Rattle.ax_frame.proofs.parts_text.PartsText.begin.Goals as goal

pub invariant_of-result : goal.invariant_of-result
invariant_of-result c = subst Spells (sym c.new.ensures.items) nothing_seen.spells

pub returns : goal.returns
returns c = ap parts_in c.new.ensures.items ∙ nothing_seen.are
