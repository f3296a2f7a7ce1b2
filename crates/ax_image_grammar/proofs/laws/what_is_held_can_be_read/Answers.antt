use Rattle.ax_image_grammar.proofs.Readable.{documents_read, policies_read, pages_read}
use Rattle.ax_image_grammar.proofs.laws.what_is_held_can_be_read.Goals as goal

pub returns-clause-documents : goal.returns-clause-documents
returns-clause-documents c = documents_read

pub returns-clause-policies : goal.returns-clause-policies
returns-clause-policies c = policies_read

pub returns-clause-pages : goal.returns-clause-pages
returns-clause-pages c = pages_read
