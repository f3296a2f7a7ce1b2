-- A run of script lines, as data: each line with how it was answered, by its step or for want of
-- memory. Out of memory is the one choice that a run has, and it changes nothing. The containers, the
-- replies and the text of a run follow from the container before it.
use Rattle.std.specs.Prelude.{ℕ, List, [], ◌∷◌, map, take}
use Rattle.std.specs.List.{concat}
use Rattle.ax_container.specs.Container.{Container}
use Rattle.ax_machine.specs.Reply.{Reply, out_of_memory}
use Rattle.ax_machine.specs.ReplyTexts.{reply_text}
use Rattle.ax_machine.specs.Step.{step}

pub data Outcome : Type 0 where
  Served : Outcome
  OutOfMemory : Outcome

-- a line and how it was answered
pub record Exchange : Type 0 where
  pub line : List ℕ
  pub outcome : Outcome

-- the container after a line
abbrev pub after_line : Container → List ℕ → Outcome → Container
after_line before line Served = (step before line).0
after_line before line OutOfMemory = before

-- the reply to a line
abbrev pub reply_to : Container → List ℕ → Outcome → Reply
reply_to before line Served = (step before line).1
reply_to before line OutOfMemory = out_of_memory

-- the lines of a run
abbrev pub lines_of : List Exchange → List (List ℕ)
lines_of run = map (λ exchange. exchange.line) run

-- the container after a run
abbrev pub after : Container → List Exchange → Container
after before [] = before
after before (exchange ∷ run) = after (after_line before exchange.line exchange.outcome) run

-- the container after the first so many lines of a run
abbrev pub after_lines : ℕ → Container → List Exchange → Container
after_lines count before run = after before (take count run)

-- the texts of the replies of a run, one for each line
abbrev pub texts : Container → List Exchange → List (List ℕ)
texts before [] = []
texts before (exchange ∷ run) =
    reply_text (reply_to before exchange.line exchange.outcome)
    ∷ texts (after_line before exchange.line exchange.outcome) run

-- the text of a run
abbrev pub text_of : Container → List Exchange → List ℕ
text_of before run = concat (texts before run)
