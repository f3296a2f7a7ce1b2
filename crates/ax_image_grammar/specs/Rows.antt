-- Images worked out by hand of which opening tells contents, and that are outside the grammar by
-- what a payload holds, though nothing in the contents is: it was superseded, or no document is
-- under it. From the store's own file format (docs/FORMAT.md, "Parts"); no other document has it.
use Rattle.std.specs.Prelude.{ℕ, List, [], ◌∷◌, ◌++◌, None}
use Rattle.ax_disk.specs.model.Image.{Image}
use Rattle.ax_area.specs.Items.{single}
use Rattle.ax_area.specs.Changes.{Document, Gone, Policy, Base, Delta}
use Rattle.ax_area.specs.Sample.{sample_root}
use Rattle.ax_area.specs.Told.{Told}

-- the head of a frame: an open gate, and a length below 256
abbrev pub head : ℕ → List ℕ
head len = 0x01 ∷ len ∷ 0x00 ∷ 0x00 ∷ 0x00 ∷ 0x00 ∷ 0x00 ∷ 0x00 ∷ 0x00 ∷ []

-- a root whose first slot names area A, and that area with one frame, which has this length
abbrev pub with_frame : ℕ → List ℕ → Image
with_frame len frame = record {
  root = sample_root;
  a = head len ++ frame ++ 0x00 ∷ [];
  b = [];
}

-- } as a text: it is no JSON
abbrev pub junk : List ℕ
junk = 0x7D ∷ []

-- ---- the text of a document that is gone

-- document 1 under policy 0, 11 bytes; document 1 is gone, 9 bytes
abbrev pub text_frame : List ℕ
text_frame =
    0x03 ∷ 0x01 ∷ 0x00 ∷ 0x00 ∷ 0x00 ∷ 0x02 ∷ 0x00 ∷ 0x00 ∷ 0x00 ∷ 0x00 ∷ 0x7D
    ∷ 0x04 ∷ 0x01 ∷ 0x00 ∷ 0x00 ∷ 0x00 ∷ 0x00 ∷ 0x00 ∷ 0x00 ∷ 0x00 ∷ []

abbrev pub text_row : Image
text_row = with_frame 0x14 text_frame

abbrev pub text_told : List Told
text_told =
    record {
      at = 9;
      item = single (record { kind = 3; key = 1; payload = 0x00 ∷ junk });
      change = Document 1 (record { policy = 0; version = None; text = junk });
    }
    ∷ record {
      at = 20;
      item = single (record { kind = 4; key = 1; payload = [] });
      change = Gone 1;
    }
    ∷ []

-- ---- the text of a policy that no document is indexed by

abbrev pub policy_frame : List ℕ
policy_frame = 0x02 ∷ 0x01 ∷ 0x00 ∷ 0x00 ∷ 0x00 ∷ 0x01 ∷ 0x00 ∷ 0x00 ∷ 0x00 ∷ 0x7D ∷ []

abbrev pub policy_row : Image
policy_row = with_frame 0x0A policy_frame

abbrev pub policy_told : List Told
policy_told =
    record {
      at = 9;
      item = single (record { kind = 2; key = 1; payload = junk });
      change = Policy 1 junk;
    }
    ∷ []

-- ---- a delta of no term, which none may be

abbrev pub delta_frame : List ℕ
delta_frame = 0x06 ∷ 0x00 ∷ 0x00 ∷ 0x00 ∷ 0x00 ∷ 0x01 ∷ 0x00 ∷ 0x00 ∷ 0x00 ∷ 0x00 ∷ []

abbrev pub delta_row : Image
delta_row = with_frame 0x0A delta_frame

abbrev pub delta_told : List Told
delta_told =
    record {
      at = 9;
      item = single (record { kind = 6; key = 0; payload = 0x00 ∷ [] });
      change = Delta 0 (0x00 ∷ []);
    }
    ∷ []

-- ---- the same delta, and behind it a base, from which the page's parts begin anew

-- the delta, 10 bytes; a base with the first pair as its low pair and no terms, 12 bytes
abbrev pub superseded_frame : List ℕ
superseded_frame =
    0x06 ∷ 0x00 ∷ 0x00 ∷ 0x00 ∷ 0x00 ∷ 0x01 ∷ 0x00 ∷ 0x00 ∷ 0x00 ∷ 0x00
    ∷ 0x05 ∷ 0x00 ∷ 0x00 ∷ 0x00 ∷ 0x00 ∷ 0x03 ∷ 0x00 ∷ 0x00 ∷ 0x00 ∷ 0x00 ∷ 0x00 ∷ 0x00 ∷ []

abbrev pub superseded_row : Image
superseded_row = with_frame 0x16 superseded_frame

abbrev pub superseded_told : List Told
superseded_told =
    record {
      at = 9;
      item = single (record { kind = 6; key = 0; payload = 0x00 ∷ [] });
      change = Delta 0 (0x00 ∷ []);
    }
    ∷ record {
      at = 19;
      item = single (record { kind = 5; key = 0; payload = 0x00 ∷ 0x00 ∷ 0x00 ∷ [] });
      change = Base 0 (0x00 ∷ 0x00 ∷ 0x00 ∷ []);
    }
    ∷ []
