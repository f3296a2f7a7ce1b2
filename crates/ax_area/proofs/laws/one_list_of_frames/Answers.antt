use Rattle.ax_area.proofs.EveryImage.{every_image_of_frames}
use Rattle.ax_area.proofs.OneImage.{one_frames, one_damage, damaged_has_no_frames, newer_has_no_frames}
use Rattle.ax_area.proofs.OneImage.{damaged_not_newer, broken_damaged}
use Rattle.ax_area.proofs.laws.one_list_of_frames.Goals as goal

pub returns-clause-some : goal.returns-clause-some
returns-clause-some c = every_image_of_frames

pub returns-clause-frames : goal.returns-clause-frames
returns-clause-frames c newest xs ys image = one_frames newest image xs ys

pub returns-clause-extent : goal.returns-clause-extent
returns-clause-extent c newest a b i j image = λ one other. (one_damage newest image a b i j one other).0

pub returns-clause-place : goal.returns-clause-place
returns-clause-place c newest a b i j image = λ one other. (one_damage newest image a b i j one other).1

pub returns-clause-frames_not_broken : goal.returns-clause-frames_not_broken
returns-clause-frames_not_broken c newest xs a i image =
    λ has broken. damaged_has_no_frames newest image a i xs broken has

pub returns-clause-frames_not_newer : goal.returns-clause-frames_not_newer
returns-clause-frames_not_newer c newest w xs image =
    λ has newer. newer_has_no_frames newest image w xs newer has

pub returns-clause-broken_not_newer : goal.returns-clause-broken_not_newer
returns-clause-broken_not_newer c newest w a i image = damaged_not_newer newest image a i w

pub returns-clause-damaged : goal.returns-clause-damaged
returns-clause-damaged c newest a i image = broken_damaged newest image a i
