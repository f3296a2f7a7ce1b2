use Rattle.std.proofs.Common.{◌≡◌, ◌∷◌, sym, ap, ◌∙◌, rules}
use Rattle.ax_mean.specs.declared.expr.QueryStep.TheVariants as step
use Rattle.ax_sieve.proofs.Paths.{absent, plain_first}
use Rattle.ax_sieve.proofs.found.find_value.Goals as goal

pub find_member-requires : goal.find_member-requires
find_member-requires c =
    let shape : c.loop-step.left.now ≡ c.in-Some.step.now ∷ c.in-Some.more.now = search rules in
    let first : c.loop-step.left.now ≡ step.Member c.as_str.result.now ∷ c.in-Some.more.now =
    shape ∙ ap (λ s. s ∷ c.in-Some.more.now) (c.in-Member.is ∙ ap step.Member (sym c.as_str.ensures.text)) in
    record { plain = plain_first c.as_str.result.now _ _ first c.loop-step.invariant.0 }

pub returns-in_default-find_member : goal.returns-in_default-find_member
returns-in_default-find_member c = λ tree is.
    let shape : c.loop-step.left.now ≡ c.in-Some.step.now ∷ c.in-Some.more.now = search rules in
    let first : c.loop-step.left.now ≡ step.Member c.as_str.result.now ∷ c.in-Some.more.now =
    shape ∙ ap (λ s. s ∷ c.in-Some.more.now) (c.in-Member.is ∙ ap step.Member (sym c.as_str.ensures.text)) in
    let on = c.loop-step.invariant.1 tree is in
    absent c.loop-step.rest.now c.as_str.result.now _ _ _ first on
    (c.in_default-find_member.ensures on.at on.stands)
