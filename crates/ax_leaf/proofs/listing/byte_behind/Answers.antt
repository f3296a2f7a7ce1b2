use Rattle.std.proofs.Common.{arith, sym}
use Rattle.ax_leaf.proofs.Fronts.{none_there, some_there}
use Rattle.ax_leaf.proofs.listing.byte_behind.Goals as goal

pub returns-then-position-size : goal.returns-then-position-size
returns-then-position-size g c = λ term rest there sized front. sym (none_there term c.args.position (omega (arith, sized)))

pub returns-then-position-front : goal.returns-then-position-front
returns-then-position-front g c = λ term rest there sized front.
    sym (some_there term c.args.position _ (omega (arith, sized)) (front c.args.position (omega arith) (omega (arith, sized))))

pub returns : goal.returns
returns g c = λ term rest there sized front.
    sym (some_there term c.args.position _ (omega (arith, sized)) (c.far_byte_behind.ensures term rest there))
