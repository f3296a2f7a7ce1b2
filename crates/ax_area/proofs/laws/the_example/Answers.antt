use Rattle.ax_area.proofs.SampleSays.{sample_says, sample_leads, sample_spoiled}
use Rattle.ax_area.proofs.laws.the_example.Goals as goal

pub returns-clause-says : goal.returns-clause-says
returns-clause-says c = sample_says

pub returns-clause-leads : goal.returns-clause-leads
returns-clause-leads c = sample_leads

pub returns-clause-spoiled : goal.returns-clause-spoiled
returns-clause-spoiled c = sample_spoiled
