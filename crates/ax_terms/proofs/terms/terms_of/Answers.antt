use Rattle.std.proofs.lemmas.Result.{IfOk-weaker}
use Rattle.ax_terms.proofs.terms.terms_of.Goals as goal

pub returns-clause-exact : goal.returns-clause-exact
returns-clause-exact c =
    IfOk-weaker c.in_order_once.result _ _ (λ terms are. are.exact) c.in_order_once.ensures.exact
