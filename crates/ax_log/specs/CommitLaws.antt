-- What a frame is committed by: the text that `ax_frame::write_frame` gives of a list of parts is
-- the text of a frame that spans their spelling.
use Rattle.std.specs.Prelude.{◌≡◌, ℕ, List, [], ◌∷◌, ◌++◌}
use Rattle.ax_frame.specs.Part.{PartValue, parts_bytes}
use Rattle.ax_frame.specs.LogFrame.{frame_bytes, CanFrame}
use Rattle.ax_pages.specs.laws.AreaLaws.{span_of_parts}
use Rattle.ax_log.specs.Commit.{IsCommitSpelling}

pub written_frame : (ps : List PartValue) (text : List ℕ) → CanFrame ps
    → 1 ∷ text ≡ frame_bytes ps ++ 0 ∷ []
    → IsCommitSpelling text (parts_bytes ps)
written_frame ps text can spelled = record { fits = span_of_parts ps can; spelled = spelled }

-- so it is that of some frame
pub some_frame : (ps : List PartValue) (text : List ℕ) → CanFrame ps
    → 1 ∷ text ≡ frame_bytes ps ++ 0 ∷ []
    → (span : List ℕ) × IsCommitSpelling text span
some_frame ps text can spelled = (parts_bytes ps, written_frame ps text can spelled)
