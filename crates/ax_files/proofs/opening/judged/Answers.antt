use Rattle.ax_files.proofs.Causes.{cause_of_found, passed_on}
use Rattle.ax_files.proofs.Judged.{lost_as_held}
use Rattle.ax_files.proofs.opening.judged.Goals as goal

pub returns-in_err-refuse_lost-clause-cause : goal.returns-in_err-refuse_lost-clause-cause
returns-in_err-refuse_lost-clause-cause g c = λ name root_is a_is b_is.
    passed_on _ c.from_residual.result _ c.from_residual.ensures.1
    (cause_of_found (λ _ _. ⊥) (λ _ _. ⊥) (λ _. ⊥) (λ f extent. g.F.SystemFile.is_of f name extent)
    g.F.SystemFile.is_locked g.F.SystemFile.fails_with _ _ _ c.as_ref.result c.as_ref-2.result c.as_ref-3.result
    c.in_err-refuse_lost.field-0.0 c.as_ref.ensures.value c.as_ref-2.ensures.value c.as_ref-3.ensures.value root_is a_is
    b_is c.in_err-refuse_lost.ensures.cause)

pub returns-in_err-refuse_lost-clause-lost : goal.returns-in_err-refuse_lost-clause-lost
returns-in_err-refuse_lost-clause-lost g c = λ in_root in_a in_b root_is a_is b_is small.
    passed_on _ c.from_residual.result _ c.from_residual.ensures.1
    (lost_as_held g.F.SystemFile.is_honest g.F.SystemFile.content _ _ _ c.as_ref.result c.as_ref-2.result
    c.as_ref-3.result in_root in_a in_b c.in_err-refuse_lost.field-0.0 c.as_ref.ensures.value c.as_ref-2.ensures.value
    c.as_ref-3.ensures.value root_is a_is b_is small c.in_err-refuse_lost.ensures.unsound)
