use Rattle.ax_area_laws.proofs.Rising.{told_risen, risen_back}
use Rattle.ax_area_laws.proofs.laws.frames_tell_their_contents.Goals as goal

pub returns-clause-told : goal.returns-clause-told
returns-clause-told c = told_risen

pub returns-clause-back : goal.returns-clause-back
returns-clause-back c = risen_back
