use Rattle.std.proofs.Common.{rules, IsTrue}
use Rattle.ax_files.specs.Faults.{IsSoOfSome}
use Rattle.ax_files.proofs.Causes.{judged_cause, passed_on}
use Rattle.ax_files.proofs.opening.open_files.Goals as goal

pub returns-in_err-files-clause-cause : goal.returns-in_err-files-clause-cause
returns-in_err-files-clause-cause g c =
    let name = c.args.name.now in
    passed_on _ c.from_residual-in_err-files.result _ c.from_residual-in_err-files.ensures.1
    (judged_cause (λ extent. g.S.FileSystem.fails_to_open name extent)
    (λ extent. g.F.SystemFile.fails_to_lock name extent)
    (λ extent call error. IsSoOfSome (λ f. g.F.SystemFile.is_of f name extent
    × IsTrue (g.F.SystemFile.is_locked f) × g.F.SystemFile.fails_with f call error))
    (λ error. g.S.FileSystem.fails_to_sync name error) c.in_err-files.field-0.0
    (c.in_err-files.ensures.cause name (search rules) (search rules) (search rules)))
