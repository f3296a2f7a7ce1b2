-- The walk has put all rows of the document into their groups.
use Rattle.std.proofs.Common.{rules, sym, subst, ◌++◌}
use Rattle.ax_mean.specs.Rows.{envs_of_tree}
use Rattle.ax_group.specs.States.{Holds}
use Rattle.ax_group.specs.declared.groups.Groups as groups
use Rattle.ax_answer.proofs.Gathered.{rows_put}
use Rattle.ax_answer.proofs.group_rows.add_rows.Goals as goal

pub returns : goal.returns
returns c = λ asked envs holds.
    subst
    (λ (g : groups.Groups). Holds g asked (envs ++ envs_of_tree c.args.query.now c.args.tree.now))
    (sym c.into_groups.ensures)
    (rows_put _ _ c.args.query.now c.args.tree.now c.in_ok-taker.ensures (search rules) asked envs holds)
