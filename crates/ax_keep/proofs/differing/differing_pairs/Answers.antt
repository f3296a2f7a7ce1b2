use Rattle.ax_keep.proofs.DifferentPairs.{are_different}
use Rattle.ax_keep.proofs.differing.differing_pairs.Goals as goal

pub returns : goal.returns
returns c =
    are_different c.args.number c.args.under.now c.args.old.now c.args.new.now c.have_one_id-same.result
    c.in_ok-gone.gone.items c.in_ok-gone.come.items c.in_ok-before.before.items c.in_ok-after.after.items
    c.requires.old c.requires.new c.have_one_id-same.ensures.told c.in_ok-gone.ensures.old_rise
    c.in_ok-gone.ensures.new_rise c.in_ok-gone.ensures.exact c.in_ok-before.ensures c.in_ok-after.ensures
