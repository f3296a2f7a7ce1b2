-- No row is held, and as many are wanted as OFFSET and LIMIT choose among.
use Rattle.std.proofs.Common.{rules}
use Rattle.ax_answer.proofs.held.Held.of_rows.Goals as goal

pub returns-in-Some : goal.returns-in-Some
returns-in-Some c = λ wanted groups. (
  wanted,
  groups,
  search rules,
  search rules,
  (c.in-Some.most, search rules, c.new-least.ensures c.args.query.now.orders),
)
