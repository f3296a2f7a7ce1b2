-- The policies are those of the table, and the changes exchange the pairs under them. Under one number there is one policy.
use Rattle.std.proofs.Common.{◌≡◌, Some, subst, sym}
use Rattle.std.proofs.lemmas.Result.{IfOk-weaker}
use Rattle.ax_policy.specs.Table.{policy_at}
use Rattle.ax_write.proofs.ShortExchanges.{exchanged}
use Rattle.ax_write.proofs.pairs.pair_changes.Goals as goal

pub returns-then-before-after : goal.returns-then-before-after
returns-then-before-after c =
    IfOk-weaker c.changes_under.result _ _
    (λ changes is. exchanged c.args.table.now c.args.number c.args.before c.args.after _ _ _ _ c.requires.policies
    (sym c.in-Some.ensures)
    (subst (λ number. policy_at c.args.table.now number ≡ Some c.in-Some.old_under.now) c.if-before-after.true
    (sym c.in-Some.ensures))
    c.requires.old c.requires.new changes.items is)
    c.changes_under.ensures

pub returns : goal.returns
returns c =
    IfOk-weaker c.changes.result _ _
    (λ changes is. exchanged c.args.table.now c.args.number c.args.before c.args.after _ _ _ _ c.requires.policies
    (sym c.in-Some.ensures) (sym c.in-Some-policy.ensures) c.requires.old c.requires.new changes.items is)
    c.changes.ensures
