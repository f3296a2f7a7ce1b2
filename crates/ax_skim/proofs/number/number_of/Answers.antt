use Rattle.std.proofs.Common.{◌≡◌, ◌∷◌, ◌∙◌, ℕ, pos, neg_ℤ, None, Some, ap, arith, rules}
use Rattle.std.proofs.lemmas.Option.{IfSome_then}
use Rattle.ax_skim.proofs.Decimals.{negative_number, negative_of, some_written}
use Rattle.ax_skim.proofs.number.number_of.Goals as goal

pub returns-in_err-first-clause-given : goal.returns-in_err-first-clause-given
returns-in_err-first-clause-given c = λ number fits is.
    absurd (some_written number c.args.text.now fits is c.in_err-first.ensures.cases)

pub returns-in_err-size_of-clause-given : goal.returns-in_err-size_of-clause-given
returns-in_err-size_of-clause-given c = λ number fits is.
    let shape : c.args.text.now ≡ 45 ∷ c.in_ok-first.rest.now = search rules in
    let negative = negative_of number c.args.text.now c.in_ok-first.rest.now fits shape is in
    c.from_residual-in_err-size_of.ensures
    ∙ absurd (apart negative.size (c.in_err-size_of.ensures.given negative.size (omega (arith, negative.few)) negative.stands))
  where
    apart : (n : ℕ) → None ≡ Some n → ⊥
    apart n e = cc

pub returns-in_ok-size_of-clause-same : goal.returns-in_ok-size_of-clause-same
returns-in_ok-size_of-clause-same c = λ number is.
    let shape : c.args.text.now ≡ 45 ∷ c.in_ok-first.rest.now = search rules in
    IfSome_then c.below_zero.result c.below_zero.ensures.found
    (λ found e. e.1 ∙ negative_number number c.args.text.now c.in_ok-first.rest.now c.in_ok-size_of.field-0 shape is c.in_ok-size_of.ensures.same)

pub returns-in_ok-size_of-clause-given : goal.returns-in_ok-size_of-clause-given
returns-in_ok-size_of-clause-given c = λ number fits is.
    let shape : c.args.text.now ≡ 45 ∷ c.in_ok-first.rest.now = search rules in
    let negative = negative_of number c.args.text.now c.in_ok-first.rest.now fits shape is in
    let size = c.in_ok-size_of.ensures.same negative.size negative.stands in
    c.below_zero.ensures.given (omega (arith, size, negative.some)) (omega (arith, size, negative.few))
    ∙ ap Some (ap (λ n. neg_ℤ (pos n)) size ∙ negative.same)
