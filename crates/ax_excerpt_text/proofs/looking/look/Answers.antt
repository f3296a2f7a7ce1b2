use Rattle.ax_excerpt_text.proofs.LookLaws.{same_case, past_case, last_case, before_case}
use Rattle.ax_excerpt_text.proofs.looking.look.Goals as goal

pub returns-in-Same : goal.returns-in-Same
returns-in-Same c =
    λ those is rising readable. same_case c.args.name.now c.loop-value.rest.now those
    c.requires.plain c.in-Same.value.now _ _ (c.loop-value.invariant those is rising readable)
    c.in-Same.ensures c.found.ensures

pub returns-in-Past : goal.returns-in-Past
returns-in-Past c =
    λ those is rising readable. past_case c.args.name.now c.loop-value.rest.now those
    c.requires.plain (c.loop-value.invariant those is rising readable) c.in-Past.ensures

pub returns-in_default : goal.returns-in_default
returns-in_default c =
    λ those is rising readable. last_case c.args.name.now c.loop-value.rest.now those
    c.requires.plain (c.loop-value.invariant those is rising readable) c.in-Before.ensures
    c.in_default.ensures.after

pub loop-value-preserved : goal.loop-value-preserved
loop-value-preserved c =
    λ those is rising readable. before_case c.args.name.now c.loop-value.rest.now those
    c.requires.plain c.in-Some.next.now (c.loop-value.invariant those is rising readable)
    c.in-Before.ensures c.in-Some.ensures.after
