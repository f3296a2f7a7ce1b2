-- What is kept has the rows of the document more.
use Rattle.std.proofs.Common.{rules}
use Rattle.ax_answer.specs.declared.held.Held.TheVariants.{InGroups, Front, Least}
use Rattle.ax_answer.proofs.Gathered.{in_front, in_groups, in_least, seen_as}
use Rattle.ax_answer.proofs.held.Held.with_document.Goals as goal

pub returns-in_ok-add_rows-in-InGroups : goal.returns-in_ok-add_rows-in-InGroups
returns-in_ok-add_rows-in-InGroups c = λ entries gathers.
    in_groups c.args.query.now entries c.args.number c.args.tree.now c.in-InGroups.groups
    c.in_ok-add_rows-in-InGroups.field-0 c.in_ok-add_rows-in-InGroups.ensures
    (seen_as c.args.self (InGroups c.in-InGroups.groups) c.args.query.now entries (search rules) gathers)

pub returns-in_ok-with_document-in-Front : goal.returns-in_ok-with_document-in-Front
returns-in_ok-with_document-in-Front c = λ entries gathers.
    in_front c.args.query.now entries c.args.number c.args.tree.now c.in-Front.front
    c.in_ok-with_document-in-Front.field-0 c.in_ok-with_document-in-Front.ensures
    (seen_as c.args.self (Front c.in-Front.front) c.args.query.now entries (search rules) gathers)

pub returns-in_ok-with_document-in-Least : goal.returns-in_ok-with_document-in-Least
returns-in_ok-with_document-in-Least c = λ entries gathers.
    in_least c.args.query.now entries c.args.number c.args.tree.now c.in-Least.least
    c.in_ok-with_document-in-Least.field-0 c.in_ok-with_document-in-Least.ensures
    (seen_as c.args.self (Least c.in-Least.least) c.args.query.now entries (search rules) gathers)
