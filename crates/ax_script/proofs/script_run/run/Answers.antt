-- Words that are not those of a run touch nothing.
use Rattle.std.proofs.Common.{inr, refl}
use Rattle.ax_script.specs.declared.status.Status.TheVariants as status
use Rattle.ax_script.proofs.AnsweredLines.{nothing_found}
use Rattle.ax_script.proofs.Endings.{runs_words}
use Rattle.ax_script.proofs.OnDisk.{on_disk_untouched}
use Rattle.ax_script.proofs.script_run.run.Goals as goal

pub returns-then-not-is_run-clause-script : goal.returns-then-not-is_run-clause-script
returns-then-not-is_run-clause-script g c = λ honest before store.
    on_disk_untouched before status.Words _ _ (runs_words before _)

pub returns-then-not-is_run-clause-answered : goal.returns-then-not-is_run-clause-answered
returns-then-not-is_run-clause-answered g c = (nothing_found, (refl, refl), inr (refl, refl))
