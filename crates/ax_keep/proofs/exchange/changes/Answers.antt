use Rattle.std.specs.Option.{option_copied}
use Rattle.ax_keep.specs.Owned.{Owns}
use Rattle.ax_keep.proofs.Exchanging.{told_as}
use Rattle.ax_keep.proofs.exchange.changes.Goals as goal

pub returns : goal.returns
returns c =
    told_as (Owns c.args.number c.args.old_under.now (option_copied c.args.old))
    (Owns c.args.number c.args.new_under.now (option_copied c.args.new))
    c.in_ok-before.before.items c.in_ok-before.after.items c.in_ok-changes.changes.items
    c.in_ok-before.ensures.before.exact c.in_ok-before.ensures.after.exact c.in_ok-changes.ensures
