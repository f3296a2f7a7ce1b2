-- What a status tells of the store: why it was refused, or that it had contents when it was opened.
use Rattle.std.specs.Prelude.{◌≡◌, ◌⊎◌, Result, Ok, Err}
use Rattle.ax_area.specs.Image.{IsNewer}
use Rattle.ax_disk.specs.model.Moments.{History}
use Rattle.ax_documents.specs.Damage.{IsMetIn}
use Rattle.ax_documents.specs.Opening.{IsRefusedAt, IsWithin}
use Rattle.ax_image.specs.Readable.{newest}
use Rattle.ax_log.specs.Opening.{Keeps}
use Rattle.ax_script.specs.declared.status.Status.{Status}
use Rattle.ax_script.specs.declared.status.Status.TheVariants as status

-- why a status refuses to open a store: its bytes are outside the format at that offset, or a text of a policy that is
-- needed is there, or two policies have one text, or it is of that later version; its lists are then as they were
abbrev pub RefusesOpening : Status → History → History → Type 0
RefusesOpening (status.Damaged extent at) old new = IsRefusedAt old.reads extent at × Keeps old new
RefusesOpening (status.Newer version) old new = IsNewer newest version old.reads × Keeps old new
RefusesOpening other old new = Unit {0}

-- The same of a run. A store that was opened was within the format; it is damaged at the text of a
-- document that is none, or at a part of a term page outside its grammar, in the store that the run has left.
abbrev pub Refuses : Status → History → History → Type 0
Refuses (status.Damaged extent at) old new =
    (IsRefusedAt old.reads extent at × Keeps old new)
    ⊎ (IsWithin old.reads × IsMetIn new.reads extent at)
Refuses (status.Newer version) old new = IsNewer newest version old.reads × Keeps old new
Refuses other old new = Unit {0}

-- a run ends so, but that the disk may fail
abbrev pub IsEndUnlessDisk : Status → Status → Type 0
IsEndUnlessDisk why ended = (ended ≡ why) ⊎ (ended ≡ status.DiskFault)

-- opening ends a run so, but that the disk may fail
abbrev pub EndsOpening : {T : Type 0} → Status → Result T Status → Type 0
EndsOpening why (Ok opened) = ⊥
EndsOpening why (Err ended) = IsEndUnlessDisk why ended

-- the status tells that the store was opened and served
abbrev pub TellsServed : Status → Type 0
TellsServed status.Done = Unit {0}
TellsServed status.ReadFault = Unit {0}
TellsServed status.WriteFault = Unit {0}
TellsServed status.Long = Unit {0}
TellsServed other = ⊥
