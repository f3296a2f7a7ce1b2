use Rattle.ax_keep.proofs.DifferentPairs.{exchanges_documents}
use Rattle.ax_keep.proofs.exchange.changes_between.Goals as goal

pub returns : goal.returns
returns c =
    exchanges_documents c.args.number c.args.under.now c.args.old.now c.args.new.now c.in_ok-before.before.items
    c.in_ok-before.after.items c.in_ok-changes.changes.items c.requires.old c.in_ok-before.ensures c.in_ok-changes.ensures
