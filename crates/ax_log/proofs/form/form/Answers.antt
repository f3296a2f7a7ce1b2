use Rattle.std.proofs.Common.{refl, ◌∙◌}
use Rattle.ax_log.proofs.FormSteps.{fresh_stays, form_2, form_3, formed_agrees}
use Rattle.ax_log.proofs.form.form.Goals as goal

pub returns-in_err-clear-clause-any_moment : goal.returns-in_err-clear-clause-any_moment
returns-in_err-clear-clause-any_moment g c = λ honest. fresh_stays _ _
    (c.clear.ensures.any_moment honest)

pub returns-in_err-lay_out-clause-any_moment : goal.returns-in_err-lay_out-clause-any_moment
returns-in_err-lay_out-clause-any_moment g c = λ honest.
    form_2 _ _ (c.clear.ensures.any_moment honest) _
    (c.lay_out.ensures.any_moment (c.clear.ensures.honest ∙ honest))

pub returns-in_err-complete_root-clause-any_moment : goal.returns-in_err-complete_root-clause-any_moment
returns-in_err-complete_root-clause-any_moment g c = λ honest.
    let honest1 = c.clear.ensures.honest ∙ honest in
    let honest2 = c.lay_out.ensures.honest ∙ honest1 in
    form_3 _ _ (c.clear.ensures.any_moment honest) _ _ (c.lay_out.ensures.any_moment honest1)
    (c.complete_root.ensures.any_moment honest2)

pub returns-clause-any_moment : goal.returns-clause-any_moment
returns-clause-any_moment g c = λ honest.
    let honest1 = c.clear.ensures.honest ∙ honest in
    let honest2 = c.lay_out.ensures.honest ∙ honest1 in
    form_3 _ _ (c.clear.ensures.any_moment honest) _ _ (c.lay_out.ensures.any_moment honest1)
    (c.complete_root.ensures.any_moment honest2)

pub returns-clause-agrees : goal.returns-clause-agrees
returns-clause-agrees g c = λ honest.
    let honest1 = c.clear.ensures.honest ∙ honest in
    let honest2 = c.lay_out.ensures.honest ∙ honest1 in
    formed_agrees _ _ (c.in_ok-complete_root.ensures.formed honest2) refl refl

pub returns-clause-formed : goal.returns-clause-formed
returns-clause-formed g c = λ honest.
    let honest1 = c.clear.ensures.honest ∙ honest in
    let honest2 = c.lay_out.ensures.honest ∙ honest1 in
    (c.in_ok-complete_root.ensures.formed honest2).reads
