-- Items as bytes have them. Only clauses of calls that read bytes cite these.
use Rattle.std.specs.Prelude.{◌≡◌, ℕ, List, ◌++◌}
use Rattle.ax_frame.specs.Part.{PartValue, part_value, parts_bytes, AllFit}
use Rattle.ax_area.specs.Items.{Item, IsItem, ArePieces, item_bytes}
use Rattle.ax_area.specs.declared.item.ItemText.{ItemText}

-- the bytes begin with pieces that have so many missing bytes, and the rest follows
pub record HasPieces (bytes : List ℕ) (key missing : ℕ) (rest : List ℕ) : Type 0 where
  pub pieces : List PartValue
  pub fit : AllFit pieces
  pub are : ArePieces key missing pieces
  pub spelled : bytes ≡ parts_bytes pieces ++ rest

pub record BeginsWithItem (bytes : List ℕ) (item : Item) (rest : List ℕ) : Type 0 where
  pub is : IsItem item
  pub spelled : bytes ≡ item_bytes item ++ rest

pub record IsItemText (text : ItemText) (item : Item) : Type 0 where
  pub first : part_value text.first ≡ item.first
  pub pieces : text.pieces.now ≡ parts_bytes item.pieces

-- The first pieces were passed, and so what becomes of the rest tells what becomes of the whole.
pub record IsPiecedTo (bytes : List ℕ) (key missing : ℕ) (rest : List ℕ)
    (left : ℕ) : Type 0 where
  pub on : (follows : List ℕ)
      → HasPieces rest key left follows → HasPieces bytes key missing follows
  pub back : (follows : List ℕ)
      → HasPieces bytes key missing follows → HasPieces rest key left follows
