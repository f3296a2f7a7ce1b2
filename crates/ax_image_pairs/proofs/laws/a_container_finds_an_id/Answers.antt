use Rattle.ax_image_pairs.proofs.Finding.{number_by_contents, number_exact, pairs_held}
use Rattle.ax_image_pairs.proofs.laws.a_container_finds_an_id.Goals as goal

pub returns-clause-exact : goal.returns-clause-exact
returns-clause-exact c = λ contents container set id number hold is.
    number_exact container hold.documents.show.sound set (pairs_held contents.terms container set hold.pairs is) id number

pub returns-clause-found : goal.returns-clause-found
returns-clause-found c = number_by_contents
