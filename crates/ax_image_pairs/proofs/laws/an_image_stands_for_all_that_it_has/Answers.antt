use Rattle.ax_image_pairs.proofs.Standing.{all_back, documents_of_all, readable_with_index}
use Rattle.ax_image_pairs.proofs.Standing.{stands_by_grammar_with_index, stands_with_index, without_index}
use Rattle.ax_image_pairs.proofs.laws.an_image_stands_for_all_that_it_has.Goals as goal

pub returns-clause-there : goal.returns-clause-there
returns-clause-there c = stands_with_index

pub returns-clause-all : goal.returns-clause-all
returns-clause-all c = all_back

pub returns-clause-readable : goal.returns-clause-readable
returns-clause-readable c = readable_with_index

pub returns-clause-documents : goal.returns-clause-documents
returns-clause-documents c = without_index

pub returns-clause-has_documents : goal.returns-clause-has_documents
returns-clause-has_documents c = documents_of_all

pub returns-clause-grammatical : goal.returns-clause-grammatical
returns-clause-grammatical c = stands_by_grammar_with_index
