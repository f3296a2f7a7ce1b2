-- What the pass over the numbers found is said in the words of the table.
use Rattle.std.proofs.Common.{◌∙◌, sym, subst}
use Rattle.ax_policy.specs.Table.{IsGiven}
use Rattle.ax_policy.proofs.NumberLaws.{is_found, is_given}
use Rattle.ax_policy.proofs.table.PolicyTable.number_for.Goals as goal

pub returns : goal.returns
returns c =
    let found = is_found c.args.policy.now c.args.self.now c.as_slice.result.now c.in_ok-found.found
    (c.as_slice.ensures.value ∙ c.in_ok-text.ensures) c.in_ok-found.ensures in
    subst (IsGiven c.args.policy.now c.args.self.now) (sym c.number.ensures)
    (is_given c.args.policy.now c.args.self.now c.in_ok-found.found found)
