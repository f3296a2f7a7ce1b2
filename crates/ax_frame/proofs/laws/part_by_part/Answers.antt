use Rattle.ax_frame.proofs.Parts.{are_parts_less, are_parts_more, are_parts_none, are_parts_after}
use Rattle.ax_frame.proofs.laws.part_by_part.Goals as goal

pub returns-clause-first : goal.returns-clause-first
returns-clause-first c bytes p rest first = (are_parts_less bytes p rest first, are_parts_more bytes p rest first)

pub returns-clause-none : goal.returns-clause-none
returns-clause-none c = are_parts_none

pub returns-clause-some : goal.returns-clause-some
returns-clause-some c bytes ps rest = are_parts_after ps bytes rest
