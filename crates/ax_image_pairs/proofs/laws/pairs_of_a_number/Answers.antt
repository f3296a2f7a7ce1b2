use Rattle.ax_image_pairs.proofs.Finding.{pairs_held, pairs_of_entry, pairs_of_none}
use Rattle.ax_image_pairs.proofs.laws.pairs_of_a_number.Goals as goal

pub returns-clause-entry : goal.returns-clause-entry
returns-clause-entry c = λ contents container set number entry pair hold is at.
    pairs_of_entry container set (pairs_held contents.terms container set hold.pairs is) number entry at pair

pub returns-clause-none : goal.returns-clause-none
returns-clause-none c = λ contents container set number pair hold is at.
    pairs_of_none container set (pairs_held contents.terms container set hold.pairs is) number at pair
