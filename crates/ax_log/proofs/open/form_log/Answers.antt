use Rattle.ax_log.proofs.OpenSteps.{formed_log}
use Rattle.ax_log.proofs.open.form_log.Goals as goal

pub returns-clause-tells : goal.returns-clause-tells
returns-clause-tells g c = λ honest. formed_log c.in-Ok.log _ _ (c.requires.fresh honest)
    (c.in-Ok.ensures.agrees honest) c.in-Ok.ensures.slot (c.in-Ok.ensures.formed honest)
