-- How far a run has come, for `serve_line` and the private parts of the top call: in the streams,
-- and on the disk where that is honest.
use Rattle.std.specs.Prelude.{◌≡◌, ℕ, ◌+◌, ◌≤◌, Bool, List, [], ◌∷◌, length, take, Option, IsTrue}
use Rattle.std.specs.List.{concat}
use Rattle.std.specs.Io.KnownBytes.{Appends}
use Rattle.ax_base.specs.Appends.{AppendsPrefix}
use Rattle.ax_disk.specs.model.Image.{Image}
use Rattle.ax_disk.specs.model.Moments.{History, Progresses}
use Rattle.ax_disk.specs.model.Stays.{Rests, Turns}
use Rattle.ax_container.specs.Container.{Container}
use Rattle.ax_image_pairs.specs.Indexed.{StandsForAll}
use Rattle.ax_documents.specs.Damage.{IsMetIn}
use Rattle.ax_documents.specs.Opening.{IsImageOf}
use Rattle.ax_lines.specs.ScriptLines.{AreLines, last_line}
use Rattle.ax_machine.specs.Needs.{most_steps, most_steps_in}
use Rattle.ax_machine.specs.ReplyTexts.{reply_text}
use Rattle.ax_machine.specs.Run.{Outcome, Exchange, after_line, after_lines, reply_to, after, texts}
use Rattle.ax_script.specs.Script.{Answers, BeginsToAnswer, Runs}
use Rattle.ax_script.specs.Streams.{Streams, Moves, Outlets}
use Rattle.ax_script.specs.DiskScript.{StandsAfter}
use Rattle.ax_script.specs.declared.status.Status.{Status}
use Rattle.ax_script.specs.declared.status.Status.TheVariants as status

-- the status of a run that broke off while a line was served, over documents that are those of a
-- container
abbrev pub BreaksOffWith : Status → Type 0
BreaksOffWith status.WriteFault = Unit {0}
BreaksOffWith status.DiskFault = Unit {0}
BreaksOffWith status.Memory = Unit {0}
BreaksOffWith other = ⊥

-- the status of a run that ended before it took a line
abbrev pub EndsEarly : Status → Type 0
EndsEarly status.DiskFault = Unit {0}
EndsEarly (status.Damaged extent at) = Unit {0}
EndsEarly (status.Newer version) = Unit {0}
EndsEarly status.Memory = Unit {0}
EndsEarly other = ⊥

-- the status of a run over a store that was opened and stands for a container
abbrev pub IsOfServing : Status → Type 0
IsOfServing status.Words = ⊥
IsOfServing (status.Damaged extent at) = ⊥
IsOfServing (status.Newer version) = ⊥
IsOfServing other = Unit {0}

-- the status of a line that was not served
abbrev pub IsLineFault : Status → Type 0
IsLineFault status.WriteFault = Unit {0}
IsLineFault status.DiskFault = Unit {0}
IsLineFault (status.Damaged extent at) = Unit {0}
IsLineFault other = ⊥

-- the status of a run that broke off while a line was served, over any documents; where one of these is
-- damaged, with its place
abbrev pub StopsBy : Bool → Status → History → Type 0
StopsBy honest status.WriteFault history = Unit {0}
StopsBy honest status.DiskFault history = Unit {0}
StopsBy honest status.Memory history = Unit {0}
StopsBy honest (status.Damaged extent at) history = IsTrue honest → IsMetIn history.reads extent at
StopsBy honest other history = ⊥

-- the status of a run over a store that was opened, with any documents
abbrev pub EndsServing : Bool → Status → History → Type 0
EndsServing honest status.Words history = ⊥
EndsServing honest (status.Damaged extent at) history = IsTrue honest → IsMetIn history.reads extent at
EndsServing honest (status.Newer version) history = ⊥
EndsServing honest other history = Unit {0}

abbrev pub outlets : Option (List ℕ) → History → ℕ → Outlets
outlets written history steps = record { written = written; history = history; steps = steps }

-- The image stands for the container after a prefix of the lines. The prefix has each line whose
-- reply, behind those before it, ends within a text of this length.
pub record Reaches (before : Container) (run : List Exchange) (text : List ℕ)
    (image : Image) : Type 0 where
  pub count : ℕ
  pub within : count ≤ length run
  pub stands : StandsForAll image (after_lines count before run)
  pub enough : (lines : ℕ) → lines ≤ length run
      → length (concat (take lines (texts before run))) ≤ length text → lines ≤ count

-- the disk went through the lines of the run, and stands for the container after them
pub record Passes (honest : Type 0) (before : Container) (run : List Exchange) (now : Container)
    (old new : History) : Type 0 where
  pub moments : honest → Progresses old new 0 (length run) (StandsAfter before run)
  pub rests : honest → Rests new (IsImageOf now)

-- the disk went through some lines of the run, all whose replies are whole in the text
pub record BreaksOff (honest : Type 0) (before : Container) (run : List Exchange) (text : List ℕ)
    (old new : History) : Type 0 where
  pub moments : honest → Progresses old new 0 (length run) (StandsAfter before run)
  pub rests : honest → Rests new (Reaches before run text)

-- the line was answered, and its reply was written
pub record Serves (honest : Type 0) (before : Container) (line : List ℕ) (now : Container)
    (old new : Outlets) : Type 0 where
  pub outcome : Outcome
  pub made : now ≡ after_line before line outcome
  pub replied : Appends old.written new.written (reply_text (reply_to before line outcome))
  pub turns : honest → Turns old.history new.history (IsImageOf before) (IsImageOf now)
  pub rests : honest → Rests new.history (IsImageOf now)
  pub bounded : new.steps ≤ old.steps + most_steps before line

-- the line was answered, and a prefix of its reply was written
pub record BeginsToServe (honest : Type 0) (before : Container) (line : List ℕ)
    (old new : Outlets) : Type 0 where
  pub outcome : Outcome
  pub replied : AppendsPrefix old.written new.written (reply_text (reply_to before line outcome))
  pub turns : honest → Turns old.history new.history (IsImageOf before)
      (IsImageOf (after_line before line outcome))
  pub rests : honest → Rests new.history (Reaches before
      (record { line = line; outcome = outcome } ∷ [])
      (take replied.0 (reply_text (reply_to before line outcome))))
  pub bounded : new.steps ≤ old.steps + most_steps before line

-- the lines among the bytes were served, and the last piece of the bytes is pending
pub record ServesLines (honest : Type 0) (before : Container) (bytes : List ℕ) (now : Container)
    (pending : List ℕ) (old new : Outlets) : Type 0 where
  pub lines : List (List ℕ)
  pub run : List Exchange
  pub text : List ℕ
  pub split : AreLines bytes lines pending
  pub answers : Answers before lines run text
  pub stands : now ≡ after before run
  pub appended : Appends old.written new.written text
  pub disk : Passes honest before run now old.history new.history
  pub bounded : new.steps ≤ old.steps + most_steps_in before run

-- a prefix was written of what the lines among the bytes are answered
pub record BeginsLines (honest : Type 0) (before : Container) (bytes : List ℕ)
    (old new : Outlets) : Type 0 where
  pub lines : List (List ℕ)
  pub last : List ℕ
  pub run : List Exchange
  pub text : List ℕ
  pub split : AreLines bytes lines last
  pub answers : BeginsToAnswer before lines run text
  pub appended : Appends old.written new.written text
  pub disk : BreaksOff honest before run text old.history new.history
  pub bounded : new.steps ≤ old.steps + most_steps_in before run

-- the last piece was served, if it is a line, and its reply was written
pub record ServesLast (honest : Type 0) (before : Container) (last : List ℕ)
    (old new : Outlets) : Type 0 where
  pub run : List Exchange
  pub text : List ℕ
  pub answers : Answers before (last_line last) run text
  pub appended : Appends old.written new.written text
  pub disk : BreaksOff honest before run text old.history new.history
  pub bounded : new.steps ≤ old.steps + most_steps_in before run

-- a prefix was written of what the last piece is answered
pub record BeginsLast (honest : Type 0) (before : Container) (last : List ℕ)
    (old new : Outlets) : Type 0 where
  pub run : List Exchange
  pub text : List ℕ
  pub answers : BeginsToAnswer before (last_line last) run text
  pub appended : Appends old.written new.written text
  pub disk : BreaksOff honest before run text old.history new.history
  pub bounded : new.steps ≤ old.steps + most_steps_in before run

-- so many bytes were taken, the lines among them were served, and the last piece of them is pending
pub record Progress (honest : Type 0) (before : Container) (old new : Streams) (entry here : History)
    (now : Container) (pending : List ℕ) (count : ℕ) : Type 0 where
  pub taken : List ℕ
  pub lines : List (List ℕ)
  pub run : List Exchange
  pub text : List ℕ
  pub moves : Moves old new taken text
  pub split : AreLines taken lines pending
  pub answers : Answers before lines run text
  pub stands : now ≡ after before run
  pub counted : length taken ≡ count
  pub disk : Passes honest before run now entry here
  pub bounded : new.steps ≤ old.steps + most_steps_in before run

-- how a run over an open store has ended
pub record Ends (honest : Type 0) (before : Container) (ended : Status) (old new : Streams)
    (entry exit : History) : Type 0 where
  pub script : Runs before ended old new
  pub disk : BreaksOff honest before script.run script.text entry exit
