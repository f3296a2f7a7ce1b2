use Rattle.ax_image_grammar.proofs.OneThere.{one_document, one_policy, one_page}
use Rattle.ax_image_grammar.proofs.OneThere.{one_position_there, document_not_policy}
use Rattle.ax_image_grammar.proofs.OneThere.{document_not_part, policy_not_part}
use Rattle.ax_image_grammar.proofs.laws.one_thing_begins_at_a_place.Goals as goal

pub returns-clause-documents : goal.returns-clause-documents
returns-clause-documents c = one_document

pub returns-clause-policies : goal.returns-clause-policies
returns-clause-policies c = one_policy

pub returns-clause-pages : goal.returns-clause-pages
returns-clause-pages c = one_page

pub returns-clause-positions : goal.returns-clause-positions
returns-clause-positions c = one_position_there

pub returns-clause-document_not_policy : goal.returns-clause-document_not_policy
returns-clause-document_not_policy c = document_not_policy

pub returns-clause-document_not_part : goal.returns-clause-document_not_part
returns-clause-document_not_part c = document_not_part

pub returns-clause-policy_not_part : goal.returns-clause-policy_not_part
returns-clause-policy_not_part c = policy_not_part
