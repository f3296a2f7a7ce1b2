use Rattle.ax_area.proofs.SampleSays.{sample_broken, sample_newer, sample_second, sample_twin}
use Rattle.ax_area.proofs.SampleSays.{sample_worn, sample_mixed, sample_later}
use Rattle.ax_area.proofs.laws.worked_images.Goals as goal

pub returns-clause-broken : goal.returns-clause-broken
returns-clause-broken c = sample_broken

pub returns-clause-newer : goal.returns-clause-newer
returns-clause-newer c = sample_newer

pub returns-clause-second : goal.returns-clause-second
returns-clause-second c = sample_second

pub returns-clause-twin : goal.returns-clause-twin
returns-clause-twin c = sample_twin

pub returns-clause-worn : goal.returns-clause-worn
returns-clause-worn c = sample_worn

pub returns-clause-mixed : goal.returns-clause-mixed
returns-clause-mixed c = sample_mixed

pub returns-clause-later : goal.returns-clause-later
returns-clause-later c = sample_later
