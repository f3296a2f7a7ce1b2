use Rattle.ax_area_laws.proofs.Spoiled.{spoiled_alike, spoiled_alike_back}
use Rattle.ax_area_laws.proofs.laws.frames_are_spoiled_alike.Goals as goal

pub returns-clause-spoiled : goal.returns-clause-spoiled
returns-clause-spoiled c = spoiled_alike

pub returns-clause-back : goal.returns-clause-back
returns-clause-back c = spoiled_alike_back
