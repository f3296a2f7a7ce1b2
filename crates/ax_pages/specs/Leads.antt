-- Which bytes lead from contents to contents, and where bytes are spoiled: of what one log frame
-- spans, and of one log frame after another.
-- From the store's own file format (docs/FORMAT.md, "Parts"); no other document has it.
use Rattle.std.specs.Prelude.{◌≡◌, ◌≢◌, ℕ, ◌+◌, List, [], ◌∷◌, ◌++◌, length, Some, None}
use Rattle.std.specs.List.{flat_map}
use Rattle.ax_frame.specs.Part.{PartValue, AllFit, parts_bytes, BeginsWithPart}
use Rattle.ax_frame.specs.LogFrame.{open_frame}
use Rattle.ax_pages.specs.Contents.{Contents}
use Rattle.ax_pages.specs.AfterPart.{after_part, after_parts}

-- the bytes are parts that lead from the contents before to those after
pub record Leads (bytes : List ℕ) (before after : Contents) : Type 0 where
  pub parts : List PartValue
  pub fit : AllFit parts
  pub spelled : bytes ≡ parts_bytes parts
  pub lead : after_parts parts before ≡ Some after

-- whatever part the bytes begin with, it is outside the format after these contents
abbrev pub IsRefused : List ℕ → Contents → Type 0
IsRefused bytes contents = (part : PartValue) (follows : List ℕ) → BeginsWithPart bytes part follows → after_part part contents ≡ None

-- Some parts lead up to the offset, and there something stands that is no part, or a part that is
-- outside the format.
pub record IsSpoiled (bytes : List ℕ) (before : Contents) (at : ℕ) : Type 0 where
  pub parts : List PartValue
  pub fit : AllFit parts
  pub reached : Contents
  pub lead : after_parts parts before ≡ Some reached
  pub rest : List ℕ
  pub some : rest ≢ []
  pub spelled : bytes ≡ parts_bytes parts ++ rest
  pub refused : IsRefused rest reached
  pub offset : at ≡ length (parts_bytes parts)

-- the frames, each by the bytes that it spans, lead one after another
abbrev pub LeadOn : List (List ℕ) → Contents → Contents → Type 0
LeadOn [] before after = before ≡ after
LeadOn (frame ∷ frames) before after = (between : Contents) × Leads frame before between × LeadOn frames between after

-- Some frames lead up to one that is spoiled. The offset is that in the area, where each frame has its
-- gate and its length in front.
pub record AreSpoiled (frames : List (List ℕ)) (before : Contents) (at : ℕ) : Type 0 where
  pub first : List (List ℕ)
  pub reached : Contents
  pub lead : LeadOn first before reached
  pub frame : List ℕ
  pub others : List (List ℕ)
  pub are : frames ≡ first ++ frame ∷ others
  pub within : ℕ
  pub spoiled : IsSpoiled frame reached within
  pub offset : at ≡ length (flat_map open_frame first) + 9 + within
