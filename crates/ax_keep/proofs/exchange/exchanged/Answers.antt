use Rattle.ax_keep.proofs.Exchanging.{exchanges}
use Rattle.ax_keep.proofs.exchange.exchanged.Goals as goal

pub returns : goal.returns
returns c =
    exchanges c.args.before.items c.args.after.items c.in_ok-changes.changes.items c.requires.before c.requires.after c.in_ok-changes.ensures
