use Rattle.ax_gap.proofs.VarintLaws.{grammar_spells, spells_grammar}
use Rattle.ax_gap.proofs.laws.varint_is_the_one.Goals as goal

pub returns : goal.returns
returns c bytes n = (grammar_spells bytes n, λ e. rw e (spells_grammar n))
