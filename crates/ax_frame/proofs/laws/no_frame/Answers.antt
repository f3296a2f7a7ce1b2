use Rattle.ax_frame.proofs.Pieces.{no_frame_short, no_frame_closed, no_frame_bad, no_frame_past, no_frame_parts}
use Rattle.ax_frame.proofs.laws.no_frame.Goals as goal

pub returns-clause-short : goal.returns-clause-short
returns-clause-short c = no_frame_short

pub returns-clause-closed : goal.returns-clause-closed
returns-clause-closed c = no_frame_closed

pub returns-clause-bad : goal.returns-clause-bad
returns-clause-bad c = no_frame_bad

pub returns-clause-past : goal.returns-clause-past
returns-clause-past c = no_frame_past

pub returns-clause-parts : goal.returns-clause-parts
returns-clause-parts c = no_frame_parts
