-- Where a write is not made, the disk's lists are as they were: of a call that only reads, and of one behind such a call.
use Rattle.std.proofs.Common.{◌≡◌, Result, Ok, Err, refl}
use Rattle.std.specs.Prelude.{IfErr}
use Rattle.ax_disk.specs.laws.StaysLaws.{idles_join}
use Rattle.ax_disk.specs.model.Calls.{Idles}
use Rattle.ax_disk.specs.model.Moments.{History}
use Rattle.ax_store.specs.declared.fault.StoreFault.{StoreFault}
use Rattle.ax_store.specs.declared.fault.StoreFault.TheVariants.{Disk, Damaged, Newer, Memory}
use Rattle.ax_write.specs.Committed.{IdlesUnlessDisk, IsBrief}
use Rattle.ax_write.specs.Writes.{IdlesUnlessMade}
use Rattle.ax_write.specs.declared.fault.WriteFault.{WriteFault}
use Rattle.ax_write.specs.declared.fault.WriteFault.TheVariants as fault

-- ---- what only reads

pub idles_of : (before after : History) → Idles before after → (why : StoreFault) → IdlesUnlessDisk why before after
idles_of before after idles Disk = tt
idles_of before after idles (Damaged extent at) = idles
idles_of before after idles (Newer version) = idles
idles_of before after idles Memory = idles

pub idles_made : (before after : History) → Idles before after → (result : Result (Unit {0}) WriteFault) → IdlesUnlessMade result before after
idles_made before after idles (Ok done) = tt
idles_made before after idles (Err fault.Conflict) = idles
idles_made before after idles (Err fault.Absent) = idles
idles_made before after idles (Err fault.Full) = idles
idles_made before after idles (Err (fault.Store why)) = idles_of before after idles why

-- ---- one call behind another

module _ (before between after : History) (first : Idles before between) where
  behind_disk : (why : StoreFault) → IdlesUnlessDisk why between after → IdlesUnlessDisk why before after
  behind_disk Disk second = tt
  behind_disk (Damaged extent at) second = idles_join before between after first second
  behind_disk (Newer version) second = idles_join before between after first second
  behind_disk Memory second = idles_join before between after first second

  -- a write behind what only reads
  pub idles_behind : (result : Result (Unit {0}) WriteFault) → IdlesUnlessMade result between after → IdlesUnlessMade result before after
  idles_behind (Ok done) second = tt
  idles_behind (Err fault.Conflict) second = idles_join before between after first second
  idles_behind (Err fault.Absent) second = idles_join before between after first second
  idles_behind (Err fault.Full) second = idles_join before between after first second
  idles_behind (Err (fault.Store why)) second = behind_disk why second

  -- a commit behind its plan: it failed by the disk, or changed no list
  pub idles_committed : {T : Type 0} (result : Result T StoreFault) → IfErr result IsBrief → (result ≡ Err Memory → Idles between after)
      → IfErr result (λ why. IdlesUnlessDisk why before after)
  idles_committed (Ok value) only second = tt
  idles_committed (Err Disk) only second = tt
  idles_committed (Err (Damaged extent at)) only second = absurd only
  idles_committed (Err (Newer version)) only second = absurd only
  idles_committed (Err Memory) only second = idles_join before between after first (second refl)
