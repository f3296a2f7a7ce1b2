-- The rows of the front are those that OFFSET and LIMIT choose.
use Rattle.std.proofs.Common.{rules}
use Rattle.ax_answer.specs.declared.held.Held.TheVariants.{Front}
use Rattle.ax_answer.proofs.Gathered.{answered_in_front, seen_as}
use Rattle.ax_answer.proofs.held.Held.finish.Goals as goal

pub returns-in-Front : goal.returns-in-Front
returns-in-Front c = λ entries gathers rising.
    answered_in_front c.args.query.now entries c.in-Front.front _ c.finish-in-Front.ensures
    (seen_as c.args.self (Front c.in-Front.front) c.args.query.now entries (search rules) gathers) rising
