use Rattle.ax_pages.proofs.ToldApart.{told_apart, lows_kept}
use Rattle.ax_pages.proofs.contents_laws.term_pages_are_told_apart.Goals as goal

pub returns-clause-apart : goal.returns-clause-apart
returns-clause-apart c = told_apart

pub returns-clause-kept : goal.returns-clause-kept
returns-clause-kept c = lows_kept
