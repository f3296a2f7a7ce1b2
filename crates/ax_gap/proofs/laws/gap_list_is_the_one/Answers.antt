use Rattle.ax_gap.proofs.GapLaws.{list_grammar_spells, spells_list_grammar}
use Rattle.ax_gap.proofs.laws.gap_list_is_the_one.Goals as goal

pub returns : goal.returns
returns c bytes list = (list_grammar_spells bytes list, λ h. rw h.1 (spells_list_grammar list h.0))
