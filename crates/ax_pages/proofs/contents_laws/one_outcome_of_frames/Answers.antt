use Rattle.ax_pages.proofs.OneContents.{one_leads_on, one_place, lead_or_spoiled}
use Rattle.ax_pages.proofs.contents_laws.one_outcome_of_frames.Goals as goal

pub returns-clause-one : goal.returns-clause-one
returns-clause-one c = one_leads_on

pub returns-clause-offset : goal.returns-clause-offset
returns-clause-offset c = one_place

pub returns-clause-either : goal.returns-clause-either
returns-clause-either c = lead_or_spoiled
