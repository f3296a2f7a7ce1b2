use Rattle.ax_pairs.proofs.Belonging.{somewhere, one_page}
use Rattle.ax_pairs.proofs.laws.a_pair_belongs_to_one_page.Goals as goal

pub returns-clause-somewhere : goal.returns-clause-somewhere
returns-clause-somewhere c = somewhere

pub returns-clause-same : goal.returns-clause-same
returns-clause-same c = one_page
