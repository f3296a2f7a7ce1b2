-- A front that is full takes all further rows without change.
use Rattle.std.proofs.Common.{refl, true}
use Rattle.ax_rows.proofs.FrontKept.{enough_taken}
use Rattle.ax_rows.proofs.front.FrontTakerTaker.take.Goals as goal

pub returns-then-is_full-clause-enough : goal.returns-then-is_full-clause-enough
returns-then-is_full-clause-enough c = λ is rows.
    enough_taken c.keep.new.self true refl
    (λ full distinct skip limit some more holds.
    c.if-is_full.ensures.sound full distinct skip limit some more holds)
    rows
