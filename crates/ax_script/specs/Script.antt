-- What a run of the program did with the script that its source held: the bytes that it took, their
-- lines, how each was answered, and what of the replies it wrote.
use Rattle.std.specs.Prelude.{◌≡◌, ℕ, ◌+◌, ◌^◌, ◌<◌, ◌≤◌, List, [], ◌++◌, ◌⊎◌, ◌↔◌, length, Option}
use Rattle.std.specs.Io.KnownBytes.{IsAtEnd}
use Rattle.ax_container.specs.Container.{Container}
use Rattle.ax_lines.specs.ScriptLines.{AreLines, last_line}
use Rattle.ax_machine.specs.Needs.{most_steps_in}
use Rattle.ax_machine.specs.Run.{Exchange, lines_of, text_of}
use Rattle.ax_script.specs.Streams.{Streams, Moves}
use Rattle.ax_script.specs.declared.status.Status.{Status}
use Rattle.ax_script.specs.declared.status.Status.TheVariants as status

-- a run that takes more bytes than these ends as Long
abbrev pub most_input : ℕ
most_input = 2 ^ 40

-- the text is all that the run is answered
pub record Answers (before : Container) (lines : List (List ℕ)) (run : List Exchange)
    (text : List ℕ) : Type 0 where
  pub answered : lines_of run ≡ lines
  pub replies : text ≡ text_of before run

-- the text is a prefix of what the run is answered
pub record BeginsToAnswer (before : Container) (lines : List (List ℕ)) (run : List Exchange)
    (text : List ℕ) : Type 0 where
  pub rest : List ℕ
  pub answers : Answers before lines run (text ++ rest)

-- What was written, by how the run ended. The last piece that was taken is a line where the source has
-- ended.
abbrev pub IsTextAt : Status → Container → Option (List ℕ) → List (List ℕ) → List ℕ → List Exchange
    → List ℕ → Type 0
IsTextAt status.Done before remaining lines last run text = IsAtEnd remaining
    × Answers before (lines ++ last_line last) run text
IsTextAt status.ReadFault before remaining lines last run text = Answers before lines run text
IsTextAt status.Words before remaining lines last run text = (lines ++ last_line last ≡ [])
    × (text ≡ [])
IsTextAt other before remaining lines last run text =
    BeginsToAnswer before lines run text
    ⊎ (IsAtEnd remaining × BeginsToAnswer before (lines ++ last_line last) run text)

-- from the container before, what a run that ended so took, answered and wrote
pub record Runs (before : Container) (ended : Status) (old new : Streams) : Type 0 where
  -- the bytes that were taken from the source, the lines among them, and what follows the last newline
  pub taken : List ℕ
  pub lines : List (List ℕ)
  pub last : List ℕ
  -- the lines with how each is answered, and what was written of that
  pub run : List Exchange
  pub text : List ℕ
  pub moves : Moves old new taken text
  pub split : AreLines taken lines last
  pub is_text : IsTextAt ended before new.remaining lines last run text
  pub long : (ended ≡ status.Long) ↔ (most_input < length taken)
  -- no more steps of work were counted than these lines may count
  pub bounded : new.steps ≤ old.steps + most_steps_in before run
