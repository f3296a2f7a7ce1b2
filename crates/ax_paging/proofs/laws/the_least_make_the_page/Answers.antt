use Rattle.ax_paging.proofs.LeastPage.{least_page}
use Rattle.ax_paging.proofs.laws.the_least_make_the_page.Goals as goal

pub returns : goal.returns
returns c = λ query entries mark count plain of_query. least_page query entries mark count plain of_query
