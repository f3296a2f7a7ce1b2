use Rattle.std.proofs.Common.{◌≡◌, [], arith}
use Rattle.std.proofs.lemmas.Grind.{common_steps}
use Rattle.std.specs.Vec.Iter.{into_iter_items}
use Rattle.ax_group.proofs.StateLaws.{at_exit}
use Rattle.ax_group.proofs.state.add_all.Goals as goal

pub returns : goal.returns
returns c =
    let none : into_iter_items c.loop-value.value-iterator ≡ [] = grind (arith, common_steps) in
    at_exit c.loop-value.at c.loop-value.tallies.items
    (into_iter_items c.loop-value.value-iterator) _ none c.loop-value.invariant.made
