-- The exit code of each status, its text on standard error, and what the disk counts where it is the status.
use Rattle.std.specs.Prelude.{◌≡◌, ℕ, List, [], ◌++◌, codes, decimal, Result, Ok, Err}
use Rattle.ax_faults.specs.Faults.{Rose}
use Rattle.ax_script.specs.declared.status.Status.{Status}
use Rattle.ax_script.specs.declared.status.Status.TheVariants.{Done, Words, DiskFault, ReadFault}
use Rattle.ax_script.specs.declared.status.Status.TheVariants.{WriteFault, Damaged, Newer, Memory}
use Rattle.ax_script.specs.declared.status.Status.TheVariants.{Long}

abbrev pub code_of : Status → ℕ
code_of Done = 0
code_of Words = 2
code_of DiskFault = 3
code_of ReadFault = 4
code_of WriteFault = 5
code_of (Damaged extent at) = 6
code_of (Newer version) = 7
code_of Memory = 8
code_of Long = 10

abbrev pub text_of : Status → List ℕ
text_of Done = []
text_of Words = codes "words"
text_of DiskFault = codes "disk fault"
text_of ReadFault = codes "read fault"
text_of WriteFault = codes "write fault"
text_of (Damaged extent at) = codes "damaged " ++ decimal extent ++ codes " " ++ decimal at
text_of (Newer version) = codes "newer " ++ decimal version
text_of Memory = codes "memory"
text_of Long = codes "long"

-- the disk's count of faults rises where a run ends since the disk failed, and nowhere else
abbrev pub CountsDisk : Status → ℕ → ℕ → Type 0
CountsDisk DiskFault earlier later = Rose earlier later
CountsDisk other earlier later = later ≡ earlier

-- the same of a call that may end the run
abbrev pub CallCountsDisk : {T : Type 0} → Result T Status → ℕ → ℕ → Type 0
CallCountsDisk (Ok value) earlier later = later ≡ earlier
CallCountsDisk (Err status) earlier later = CountsDisk status earlier later
