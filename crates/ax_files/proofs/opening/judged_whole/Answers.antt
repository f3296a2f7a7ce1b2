use Rattle.ax_files.proofs.Causes.{cause_of_made, passed_on}
use Rattle.ax_files.proofs.Judged.{made_not_lost}
use Rattle.ax_files.proofs.opening.judged_whole.Goals as goal

pub returns-in_err-refuse_lost-clause-cause : goal.returns-in_err-refuse_lost-clause-cause
returns-in_err-refuse_lost-clause-cause g c = λ name root_is a_is b_is.
    passed_on _ c.from_residual.result _ c.from_residual.ensures.1
    (cause_of_made (λ _ _. ⊥) (λ _ _. ⊥) (λ _. ⊥) (λ f extent. g.F.SystemFile.is_of f name extent)
    g.F.SystemFile.is_locked g.F.SystemFile.fails_with _ _ _ c.in_err-refuse_lost.field-0.0 root_is a_is b_is
    c.in_err-refuse_lost.ensures.cause)

pub returns-in_err-refuse_lost-clause-still_sound : goal.returns-in_err-refuse_lost-clause-still_sound
returns-in_err-refuse_lost-clause-still_sound g c = λ in_root in_a in_b root_is a_is b_is small sound.
    passed_on _ c.from_residual.result _ c.from_residual.ensures.1
    (made_not_lost g.F.SystemFile.is_honest g.F.SystemFile.content _ _ _ in_root in_a in_b
    c.in_err-refuse_lost.field-0.0 root_is a_is b_is small sound c.in_err-refuse_lost.ensures.unsound)
