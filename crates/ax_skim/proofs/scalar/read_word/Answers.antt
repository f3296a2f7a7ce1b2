use Rattle.std.proofs.Common.{sym, ◌∙◌}
use Rattle.std.proofs.lemmas.Bool.{false≢true}
use Rattle.ax_skim.proofs.Shapes.{no_truth}
use Rattle.ax_skim.proofs.scalar.read_word.Goals as goal

pub returns-then-is_same : goal.returns-then-is_same
returns-then-is_same c = c.is_same.ensures.0 c.if-is_same.true

pub returns-then-is_same-2 : goal.returns-then-is_same-2
returns-then-is_same-2 c = c.is_same-else-is_same.ensures.0 c.if-is_same-2.true

pub returns-then-is_same-3 : goal.returns-then-is_same-3
returns-then-is_same-3 c = c.is_same-else-is_same-2.ensures.0 c.if-is_same-3.true

pub returns-else-is_same-3 : goal.returns-else-is_same-3
returns-else-is_same-3 c = (
  (λ is. false≢true (sym c.if-is_same.false ∙ c.is_same.ensures.1 is)),
  no_truth c.args.text.now
      (λ is. false≢true (sym c.if-is_same-2.false ∙ c.is_same-else-is_same.ensures.1 is))
      (λ is. false≢true (sym c.if-is_same-3.false ∙ c.is_same-else-is_same-2.ensures.1 is)),
)
