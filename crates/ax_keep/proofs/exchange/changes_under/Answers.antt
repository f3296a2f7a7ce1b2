use Rattle.std.proofs.Common.{Some, ap, subst, sym}
use Rattle.std.specs.Prelude.{IfOk}
use Rattle.std.specs.Option.{option_copied}
use Rattle.ax_keep.specs.Exchanges.{Exchanges}
use Rattle.ax_keep.specs.Owned.{Owns}
use Rattle.ax_keep.proofs.exchange.changes_under.Goals as goal

pub returns : goal.returns
returns c =
    subst
    (λ d. IfOk c.changes_between.result (λ changes. Exchanges (Owns c.args.number c.args.under.now d)
    (Owns c.args.number c.args.under.now (option_copied c.args.new)) changes.items))
    (sym (ap option_copied c.in-Some.is))
    (subst
    (λ d. IfOk c.changes_between.result (λ changes. Exchanges (Owns c.args.number c.args.under.now (Some c.in-Some.before.now))
    (Owns c.args.number c.args.under.now d) changes.items))
    (sym (ap option_copied c.in-Some-new.is)) c.changes_between.ensures)
