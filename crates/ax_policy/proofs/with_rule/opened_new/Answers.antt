use Rattle.ax_policy.proofs.NamePlaces as places
use Rattle.ax_policy.proofs.with_rule.opened_new.Goals as goal

pub returns-in-Ok : goal.returns-in-Ok
returns-in-Ok c =
    places.opened_new c.args.names.items c.args.name.now c.in-Ok.name c.args.at c.new.result
    c.requires.rise c.requires.room c.in-Ok.ensures c.new.ensures
