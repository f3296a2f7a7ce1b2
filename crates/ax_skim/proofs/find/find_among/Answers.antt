use Rattle.std.proofs.Common.{ap, ◌∙◌}
use Rattle.std.specs.Option.{option_map}
use Rattle.ax_skim.proofs.Found.{at_first, found, ended, next_left}
use Rattle.ax_skim.proofs.find.find_among.Goals as goal

pub loop-value-init : goal.loop-value-init
loop-value-init c = λ those is. at_first c.args.name.now c.args.members.now those is

pub returns-in-Some : goal.returns-in-Some
returns-in-Some c =
    λ those is. found c.args.name.now c.loop-value.rest.now c.in-Some.value.now those _
    c.requires.plain (c.loop-value.invariant those is) c.in-Some.ensures c.front_value.ensures

pub returns-in_err-rest : goal.returns-in_err-rest
returns-in_err-rest c =
    λ those is. ap (option_map (λ value. value.now)) c.from_residual.ensures
    ∙ ended c.args.name.now c.loop-value.rest.now those c.requires.plain
    (c.loop-value.invariant those is) c.in_default.ensures c.in_err-rest.ensures.after

pub loop-value-preserved : goal.loop-value-preserved
loop-value-preserved c =
    λ those is. next_left c.args.name.now c.loop-value.rest.now c.in_ok-rest.rest.now those
    c.requires.plain (c.loop-value.invariant those is) c.in_default.ensures c.in_ok-rest.ensures.after
