use Rattle.ax_mean.specs.declared.value.Value.TheVariants.{Defined}
use Rattle.ax_term.specs.CutValues.{cut_of}
use Rattle.ax_atoms.proofs.KeptWhole.{passed}
use Rattle.ax_atoms.proofs.Table.{exact}
use Rattle.ax_atoms.proofs.laws.ranges_have_exactly_the_passing_leaves.Goals as goal

pub returns : goal.returns
returns c = λ alias x atom is whole leaf kept fits.
    let so = exact alias x atom is leaf.path (cut_of (Defined leaf.tree)) fits in
    let then = passed alias x atom is whole leaf.path (Defined leaf.tree) kept in
    ((λ h. then.sound (so.sound h)), (λ h. so.whole (then.whole h)))
