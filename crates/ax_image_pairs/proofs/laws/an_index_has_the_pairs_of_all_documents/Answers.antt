use Rattle.ax_image_pairs.proofs.Finding.{every_there, owner, pairs_held}
use Rattle.ax_image_pairs.proofs.laws.an_index_has_the_pairs_of_all_documents.Goals as goal

pub returns-clause-every : goal.returns-clause-every
returns-clause-every c = λ contents container set entry pair hold is.
    every_there container set (pairs_held contents.terms container set hold.pairs is) hold.documents.show.sound entry pair

pub returns-clause-only : goal.returns-clause-only
returns-clause-only c = λ contents container set pair hold is.
    owner container set (pairs_held contents.terms container set hold.pairs is) pair
