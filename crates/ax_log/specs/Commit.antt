-- The two halves of a commit: the frame is written and synced behind a closed gate, then its gate
-- is opened and synced.
-- From the store's own file format (docs/FORMAT.md, "Frames"); no other document has it.
use Rattle.std.specs.Prelude.{◌≡◌, ◌≢◌, ℕ, ◌+◌, List, [], ◌∷◌, ◌++◌}
use Rattle.ax_disk.specs.declared.extent.Extent.{Extent}
use Rattle.ax_disk.specs.model.Image.{list_of, with_list}
use Rattle.ax_disk.specs.model.Pending.{all_settled}
use Rattle.ax_disk.specs.model.Moments.{History}
use Rattle.ax_disk.specs.model.Calls.{overwritten}
use Rattle.ax_frame.specs.LogFrame.{open_frame}
use Rattle.ax_pages.specs.Area.{IsSpan, AreSpans, frames_bytes}

-- The spelling of a frame that is to be committed: the frame without its own gate, and a closed gate
-- behind it.
pub record IsCommitSpelling (text span : List ℕ) : Type 0 where
  pub fits : IsSpan span
  pub spelled : 1 ∷ text ≡ open_frame span ++ 0 ∷ []

-- The first half has written the text behind the gate, and synced it.
pub record IsStaged (area : Extent) (end : ℕ) (text : List ℕ) (old new : History) : Type 0 where
  pub reads : new.reads ≡ with_list area (overwritten (list_of area old.reads) (end + 1) text)
      old.reads
  pub settled : new.unsynced ≡ all_settled new.reads

-- Frames, a closed gate, and behind it a frame that counts once this gate is open, with a closed
-- gate behind it.
pub record IsReady (bytes : List ℕ) (frames : List (List ℕ)) (span : List ℕ) : Type 0 where
  pub spans : AreSpans frames
  pub fits : IsSpan span
  pub text : List ℕ
  pub text_is : 1 ∷ text ≡ open_frame span ++ 0 ∷ []
  pub gate : ℕ
  pub closed : gate ≢ 1
  pub more : List ℕ
  pub spelled : bytes ≡ frames_bytes frames ++ gate ∷ text ++ more
