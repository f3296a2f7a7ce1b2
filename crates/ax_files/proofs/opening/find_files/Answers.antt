use Rattle.std.proofs.Common.{rules, IsTrue}
use Rattle.ax_disk.specs.declared.extent.Extent.TheVariants.{Root, A, B}
use Rattle.ax_files.specs.Faults.{IsSoOfSome}
use Rattle.ax_files.proofs.Causes.{judged_result}
use Rattle.ax_files.proofs.opening.find_files.Goals as goal

pub returns-clause-cause : goal.returns-clause-cause
returns-clause-cause g c =
    let name = c.args.name.now in
    judged_result (λ extent. g.S.FileSystem.fails_to_open name extent)
    (λ extent. g.F.SystemFile.fails_to_lock name extent)
    (λ extent call error. IsSoOfSome (λ f. g.F.SystemFile.is_of f name extent
    × IsTrue (g.F.SystemFile.is_locked f) × g.F.SystemFile.fails_with f call error))
    (λ error. g.S.FileSystem.fails_to_sync name error) c.judged.result
    (c.judged.ensures.cause name (search rules) (search rules) (search rules))

pub returns-clause-lost : goal.returns-clause-lost
returns-clause-lost g c = λ honest small.
    let held = g.S.FileSystem.held c.args.system.now c.args.name.now in
    c.judged.ensures.lost (held Root) (held A) (held B) (search rules) (search rules) (search rules) small
