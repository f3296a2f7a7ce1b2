use Rattle.ax_pages.proofs.LastPart.{last_counts, others_keep}
use Rattle.ax_pages.proofs.contents_laws.the_last_part_counts.Goals as goal

pub returns-clause-last : goal.returns-clause-last
returns-clause-last c = last_counts

pub returns-clause-none : goal.returns-clause-none
returns-clause-none c = others_keep
