-- What a run has answered over a store of any documents, also one that stands for no container: each line that it took a reply
-- that is the answer to it, by what the engine had when the line came, and the first of them by what opening gave.
use Rattle.std.specs.Prelude.{◌≡◌, ◌≢◌, ◌⊎◌, ℕ, ◌<◌, Bool, List, [], ◌∷◌, ◌++◌, length, Option, IsTrue}
use Rattle.std.specs.Io.KnownBytes.{Appends, Consumes, IsAtEnd}
use Rattle.ax_base.specs.Appends.{AppendsPrefix}
use Rattle.ax_area.specs.Image.{Says}
use Rattle.ax_area.specs.Told.{Told}
use Rattle.ax_disk.specs.model.Image.{Image}
use Rattle.ax_disk.specs.model.Moments.{History}
use Rattle.ax_disk.specs.model.Stays.{Rests}
use Rattle.ax_engine.specs.Course.{IsOpenedFrom, Standing}
use Rattle.ax_image.specs.Readable.{newest}
use Rattle.ax_lines.specs.ScriptLines.{AreLines, last_line}
use Rattle.ax_script.specs.Replies.{AreTextsTo, IsTextTo}
use Rattle.ax_script.specs.Script.{most_input}
use Rattle.ax_script.specs.Streams.{Moves, Streams}
use Rattle.ax_script.specs.declared.status.Status.{Status}
use Rattle.ax_script.specs.declared.status.Status.TheVariants as status

-- over an honest disk each image that a crash may leave says the contents that the engine has
abbrev pub IsDurable : Bool → Standing → History → Type 0
IsDurable honest now after =
    IsTrue honest → (version : ℕ) × (told : List Told) × Rests after (Says newest version told now.contents)

-- a line was answered: the text of a reply that is the answer to it was written
abbrev pub AnswersLine : Bool → List ℕ → Standing → Standing → Option (List ℕ) → Option (List ℕ) → Type 0
AnswersLine honest line was now old new = (text : List ℕ) × IsTextTo honest line text was now × Appends old new text

-- the lines among the bytes were answered, and the last piece of the bytes is pending
pub record AnswersLines (honest : Bool) (bytes pending : List ℕ) (was now : Standing) (old new : Option (List ℕ)) : Type 0 where
  pub lines : List (List ℕ)
  pub text : List ℕ
  pub split : AreLines bytes lines pending
  pub answered : AreTextsTo honest lines text was now
  pub appended : Appends old new text

-- the last piece was answered, if it is a line
abbrev pub AnswersLast : Bool → List ℕ → Standing → Standing → Option (List ℕ) → Option (List ℕ) → Type 0
AnswersLast honest last was now old new = (text : List ℕ) × AreTextsTo honest (last_line last) text was now × Appends old new text

-- the lines among the bytes that were taken were answered, and the last piece of these is pending
pub record AnswersTaken (honest : Bool) (was now : Standing) (old new : Streams) (pending : List ℕ) : Type 0 where
  pub taken : List ℕ
  pub lines : List (List ℕ)
  pub text : List ℕ
  pub moves : Moves old new taken text
  pub split : AreLines taken lines pending
  pub answered : AreTextsTo honest lines text was now

-- the source has ended, and each of its lines was answered; what they left is durable
pub record AnswersAll (honest : Bool) (was : Standing) (after : History) (old new : Streams) : Type 0 where
  pub taken : List ℕ
  pub lines : List (List ℕ)
  pub last : List ℕ
  pub text : List ℕ
  pub now : Standing
  pub moves : Moves old new taken text
  pub split : AreLines taken lines last
  pub answered : AreTextsTo honest (lines ++ last_line last) text was now
  pub durable : IsDurable honest now after
  pub at_end : IsAtEnd new.remaining

-- the same, unless it is the disk that failed
abbrev pub IsDurableUnlessDisk : Status → Bool → Standing → History → Type 0
IsDurableUnlessDisk status.DiskFault honest now after = Unit {0}
IsDurableUnlessDisk other honest now after = IsDurable honest now after

-- A line was not answered, by why its serving broke off: where the sink failed, a first piece was written of a reply that is
-- the answer to it, and what the line left is durable; else nothing was written, and unless the disk failed what was there before
-- the line is durable.
abbrev pub BreaksLine : Status → Bool → List ℕ → Standing → History → Option (List ℕ) → Option (List ℕ) → Type 0
BreaksLine status.WriteFault honest line was after old new =
    (text : List ℕ) × (now : Standing) × IsTextTo honest line text was now × AppendsPrefix old new text × IsDurable honest now after
BreaksLine other honest line was after old new = (new ≡ old) × IsDurableUnlessDisk other honest was after

-- the same of the first of the lines that were not answered, where there is one
abbrev pub BreaksFirst : Status → Bool → List (List ℕ) → Standing → History → Option (List ℕ) → Option (List ℕ) → Type 0
BreaksFirst ended honest [] was after old new =
    (ended ≢ status.WriteFault) × (new ≡ old) × IsDurableUnlessDisk ended honest was after
BreaksFirst ended honest (line ∷ lines) was after old new = BreaksLine ended honest line was after old new

-- of the lines among the bytes the first were answered, and the serving of the others broke off
pub record BreaksLines (ended : Status) (honest : Bool) (bytes : List ℕ) (was : Standing) (after : History) (old new : Option (List ℕ))
    : Type 0 where
  pub lines : List (List ℕ)
  pub last : List ℕ
  pub served : List (List ℕ)
  pub left : List (List ℕ)
  pub text : List ℕ
  pub now : Standing
  pub between : Option (List ℕ)
  pub split : AreLines bytes lines last
  pub parted : served ++ left ≡ lines
  pub answered : AreTextsTo honest served text was now
  pub appended : Appends old between text
  pub broken : BreaksFirst ended honest left now after between new

-- A run broke off: of the lines that it took, the last piece among them where the source has ended, the first were
-- answered, and of the next one nothing or a first piece was written; what they left is durable, unless the disk failed.
pub record BreaksRun (ended : Status) (honest : Bool) (was : Standing) (after : History) (old new : Streams) : Type 0 where
  pub taken : List ℕ
  pub lines : List (List ℕ)
  pub last : List ℕ
  pub served : List (List ℕ)
  pub left : List (List ℕ)
  pub text : List ℕ
  pub now : Standing
  pub between : Option (List ℕ)
  pub consumed : Consumes old.remaining new.remaining taken
  pub split : AreLines taken lines last
  pub parted : (served ++ left ≡ lines) ⊎ (IsAtEnd new.remaining × (served ++ left ≡ lines ++ last_line last))
  pub answered : AreTextsTo honest served text was now
  pub appended : Appends old.written between text
  pub broken : BreaksFirst ended honest left now after between new.written

-- nothing was taken, and nothing written
abbrev pub IsUntouched : Streams → Streams → Type 0
IsUntouched old new = (new.remaining ≡ old.remaining) × (new.written ≡ old.written)

-- What was answered, by how the run ended: at `Done` all lines; where a read failed those whose newline had come; where a call
-- failed, something is damaged or memory ran out, the first of the lines; at `Long` those of the pieces before the one with which
-- more was taken than a run takes. Unless the disk failed, what these left is durable. Where the store was not opened, and where
-- memory ran out before a line was taken, nothing was taken and nothing written.
abbrev pub TellsAnswered : Bool → Standing → History → Status → Streams → Streams → Type 0
TellsAnswered honest was after status.Done old new = AnswersAll honest was after old new
TellsAnswered honest was after status.ReadFault old new =
    (pending : List ℕ) × (now : Standing) × AnswersTaken honest was now old new pending × IsDurable honest now after
TellsAnswered honest was after status.Long old new =
    (broken : BreaksRun status.Long honest was after old new) × (most_input < length broken.taken)
TellsAnswered honest was after status.DiskFault old new = BreaksRun status.DiskFault honest was after old new
TellsAnswered honest was after status.WriteFault old new = BreaksRun status.WriteFault honest was after old new
TellsAnswered honest was after (status.Damaged extent at) old new =
    BreaksRun (status.Damaged extent at) honest was after old new ⊎ IsUntouched old new
TellsAnswered honest was after status.Memory old new = BreaksRun status.Memory honest was after old new ⊎ IsUntouched old new
TellsAnswered honest was after status.Words old new = IsUntouched old new
TellsAnswered honest was after (status.Newer version) old new = IsUntouched old new

-- ---- what the first line finds

-- Over an honest disk it is what opening gives of the image. Where the run ended by what may also end the opening, that may be so
-- or nothing was taken and nothing written.
abbrev pub TellsOpened : Status → Bool → Image → Standing → Streams → Streams → Type 0
TellsOpened status.Done honest image was old new = IsTrue honest → IsOpenedFrom image was
TellsOpened status.ReadFault honest image was old new = IsTrue honest → IsOpenedFrom image was
TellsOpened status.Long honest image was old new = IsTrue honest → IsOpenedFrom image was
TellsOpened status.WriteFault honest image was old new = IsTrue honest → IsOpenedFrom image was
TellsOpened other honest image was old new = (IsTrue honest → IsOpenedFrom image was) ⊎ IsUntouched old new
