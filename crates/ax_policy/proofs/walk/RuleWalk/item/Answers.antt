-- The rules behind the item are left.
use Rattle.std.proofs.Common.{sym, ap, ◌∙◌}
use Rattle.std.specs.Prelude.{option_map}
use Rattle.ax_mean.specs.declared.query.Step.TheVariants.{Item}
use Rattle.ax_policy.proofs.WalkPlaces.{stepped, stays, behind_in}
use Rattle.ax_policy.proofs.walk.RuleWalk.item.Goals as goal

pub returns-in-Some : goal.returns-in-Some
returns-in-Some c policy path a =
    stepped c.args.self c.among.result policy path Item (option_map (λ r. r.now) c.behind_item.result) a
    (c.behind_item.ensures ∙ ap (λ o. behind_in Item (option_map (λ r. r.now) o)) (sym c.in-Some.is))
    c.among.ensures

pub returns-in-None : goal.returns-in-None
returns-in-None c policy path a =
    stays c.args.self policy path Item a (ap (option_map (λ r. r.now)) c.in-None.is)
