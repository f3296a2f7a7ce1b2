use Rattle.ax_atoms.proofs.Table.{exact}
use Rattle.ax_atoms.proofs.laws.ranges_have_exactly_the_wanted_terms.Goals as goal

pub returns : goal.returns
returns c = λ alias x atom is path value fits.
    let so = exact alias x atom is path value fits in (so.sound, so.whole)
