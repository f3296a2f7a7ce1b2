use Rattle.std.proofs.Common.{false, sym, ap, ap₂, ◌∙◌}
use Rattle.std.specs.Option.{unwrap_or}
use Rattle.ax_mean.specs.Comparison.{equality}
use Rattle.ax_terms.proofs.Passing.{equality_so, equality_is}
use Rattle.ax_terms.proofs.differing.are_equal.Goals as goal

pub returns-clause-told : goal.returns-clause-told
returns-clause-told c e =
    equality_so c.args.old.now c.args.new.now
    (ap (λ o. unwrap_or o false) (ap₂ equality (sym c.here.ensures) (sym c.here-2.ensures) ∙ sym c.equality-3.ensures)
    ∙ sym c.unwrap_or.ensures ∙ e)

pub returns-clause-equal : goal.returns-clause-equal
returns-clause-equal c e =
    c.unwrap_or.ensures
    ∙ ap (λ o. unwrap_or o false) (c.equality-3.ensures ∙ ap₂ equality c.here.ensures c.here-2.ensures)
    ∙ equality_is c.args.old.now c.args.new.now e
