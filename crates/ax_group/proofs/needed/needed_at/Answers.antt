use Rattle.std.proofs.Common.{sym, ap, ◌∙◌}
use Rattle.std.specs.Option.{option_copied}
use Rattle.ax_mean.specs.declared.value.Value.TheVariants.{Undefined}
use Rattle.ax_group.proofs.Asking.{if_ok}
use Rattle.ax_group.proofs.Needs.{replaced, behind_all}
use Rattle.ax_group.proofs.needed.needed_at.Goals as goal

pub returns-in-Some : goal.returns-in-Some
returns-in-Some c =
    if_ok c.needed.result
    (λ value same. replaced c.args.tallies.now c.args.at c.in-Some.tally.now value c.args.value.now
    (sym c.tally_at.ensures ∙ ap option_copied c.in-Some.is) same)
    c.needed.ensures

pub returns-in-None : goal.returns-in-None
returns-in-None c =
    behind_all c.args.tallies.now c.args.at Undefined c.args.value.now
    (sym c.tally_at.ensures ∙ ap option_copied c.in-None.is)
