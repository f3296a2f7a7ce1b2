use Rattle.ax_pairs.proofs.PageLists.{one_page_list, list_rises}
use Rattle.ax_pairs.proofs.laws.a_page_has_one_list.Goals as goal

pub returns-clause-same : goal.returns-clause-same
returns-clause-same c = one_page_list

pub returns-clause-rises : goal.returns-clause-rises
returns-clause-rises c = list_rises
