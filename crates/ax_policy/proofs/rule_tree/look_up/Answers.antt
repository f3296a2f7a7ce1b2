use Rattle.ax_policy.proofs.NamePlaces.{found_there, none_there}
use Rattle.ax_policy.proofs.rule_tree.look_up.Goals as goal

pub returns-in-Ok : goal.returns-in-Ok
returns-in-Ok c =
    found_there c.args.names.now c.args.name.now c.in-Ok.at c.index-names-at.result c.requires c.in-Ok.ensures.found

pub returns-in-Err : goal.returns-in-Err
returns-in-Err c = none_there c.args.names.now c.args.name.now c.in-Err.at (c.in-Err.ensures.absent c.requires)
