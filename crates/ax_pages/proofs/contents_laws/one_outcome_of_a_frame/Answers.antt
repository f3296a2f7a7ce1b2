use Rattle.ax_pages.proofs.OneContents.{one_leads, one_offset, leads_or_spoiled}
use Rattle.ax_pages.proofs.contents_laws.one_outcome_of_a_frame.Goals as goal

pub returns-clause-one : goal.returns-clause-one
returns-clause-one c = one_leads

pub returns-clause-offset : goal.returns-clause-offset
returns-clause-offset c = one_offset

pub returns-clause-either : goal.returns-clause-either
returns-clause-either c = leads_or_spoiled
