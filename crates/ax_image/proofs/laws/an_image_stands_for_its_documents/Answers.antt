use Rattle.ax_image.proofs.InGrammar.{stands, documents_back, readable_back}
use Rattle.ax_image.proofs.laws.an_image_stands_for_its_documents.Goals as goal

pub returns-clause-there : goal.returns-clause-there
returns-clause-there c = stands

pub returns-clause-documents : goal.returns-clause-documents
returns-clause-documents c = documents_back

pub returns-clause-readable : goal.returns-clause-readable
returns-clause-readable c = readable_back
