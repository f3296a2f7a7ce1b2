use Rattle.ax_area.proofs.OneOutcome.{one_told, one_contents, one_extent, one_place}
use Rattle.ax_area.proofs.OneOutcome.{says_not_damaged, damaged_not_newer}
use Rattle.ax_area.proofs.laws.one_outcome.Goals as goal

pub returns-clause-told : goal.returns-clause-told
returns-clause-told c newest v w s t x y image = one_told newest image v w s t x y

pub returns-clause-contents : goal.returns-clause-contents
returns-clause-contents c newest v w s t x y image = one_contents newest image v w s t x y

pub returns-clause-extent : goal.returns-clause-extent
returns-clause-extent c newest a b i j image = one_extent newest image a b i j

pub returns-clause-place : goal.returns-clause-place
returns-clause-place c newest a b i j image = one_place newest image a b i j

pub returns-clause-good_not_damaged : goal.returns-clause-good_not_damaged
returns-clause-good_not_damaged c newest v s x a i image = says_not_damaged newest image v s x a i

pub returns-clause-damaged_not_newer : goal.returns-clause-damaged_not_newer
returns-clause-damaged_not_newer c newest w a i image = damaged_not_newer newest image w a i
