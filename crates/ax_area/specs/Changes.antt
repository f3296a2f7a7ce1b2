-- What an item says, in no version's words: a change of what the store has.
-- From the store's own file format (docs/FORMAT.md, "Parts"); no other document has it.
use Rattle.std.specs.Prelude.{ℕ, Bool, ◌==◌, ◌&&◌, nat_lt, nat_le, if◌then◌else◌, List, ◌++◌}
use Rattle.std.specs.Prelude.{length}
use Rattle.std.specs.Prelude.{drop, slice_index, Option, Some, None, is_some}
use Rattle.std.specs.List.{flat_map}
use Rattle.ax_pair.specs.Low.{low_in}
use Rattle.ax_frame.specs.Part.{PartValue}
use Rattle.ax_pages.specs.AfterPart.{last_policy}
use Rattle.ax_area.specs.declared.kind.Kind.{Kind}
use Rattle.ax_area.specs.Kinds.{kind_in}
use Rattle.ax_area.specs.declared.kind.Kind.TheVariants as kind
use Rattle.ax_area.specs.Items.{Item, number_at, long_number_at, piece_bytes}

-- a document as it is written: the number of its policy, its version where it says one, and its
-- text
pub record Written : Type 0 where
  pub policy : ℕ
  pub version : Option ℕ
  pub text : List ℕ

-- the next number, the number of the policy now, and the next version where it says one
pub record Numbers : Type 0 where
  pub next : ℕ
  pub policy : ℕ
  pub version : Option ℕ

pub data Change : Type 0 where
  Meta : Numbers → Change
  -- a policy's number and text
  Policy : ℕ → List ℕ → Change
  -- a document's number
  Document : ℕ → Written → Change
  Gone : ℕ → Change
  -- a term page's number, and the payload
  Base : ℕ → List ℕ → Change
  Delta : ℕ → List ℕ → Change

abbrev when : Bool → Change → Option Change
when test change = if test then Some change else None

-- the most bytes of text that one part can have beside a version; a longer text goes on in pieces
abbrev pub most_short : ℕ
most_short = 65527

-- a text that begins at a place of a payload, and goes on in pieces
abbrev pub text_from : ℕ → PartValue → List PartValue → List ℕ
text_from place part pieces =
    drop place part.payload ++ flat_map (λ piece. piece.payload) pieces

-- What an item says whose first part is of this kind. A piece says nothing by itself.
abbrev pub change_by : Option Kind → PartValue → List PartValue → Option Change
change_by (Some kind.PlainMeta) part pieces =
    when (part.key == 0 && length part.payload == 8 && nat_lt 0 (number_at 0 part.payload))
    (Meta (record {
      next = number_at 0 part.payload;
      policy = number_at 4 part.payload;
      version = None;
    }))
change_by (Some kind.Meta) part pieces =
    when (part.key == 0 && length part.payload == 16 && nat_lt 0 (number_at 0 part.payload)
    && nat_lt 0 (long_number_at 8 part.payload))
    (Meta (record {
      next = number_at 0 part.payload;
      policy = number_at 4 part.payload;
      version = Some (long_number_at 8 part.payload);
    }))
change_by (Some kind.Policy) part pieces =
    when (nat_le part.key last_policy) (Policy part.key part.payload)
change_by (Some kind.PlainDocument) part pieces =
    when (nat_lt 0 part.key && nat_lt 0 (length part.payload))
    (Document part.key (record {
      policy = slice_index part.payload 0;
      version = None;
      text = text_from 1 part pieces;
    }))
change_by (Some kind.Document) part pieces =
    when (nat_lt 0 part.key && nat_le 9 (length part.payload)
    && nat_lt 0 (long_number_at 1 part.payload))
    (Document part.key (record {
      policy = slice_index part.payload 0;
      version = Some (long_number_at 1 part.payload);
      text = text_from 9 part pieces;
    }))
change_by (Some kind.LongDocument) part pieces =
    when (nat_lt 0 part.key && length part.payload == piece_bytes
    && nat_lt 0 (long_number_at 1 part.payload)
    && nat_lt most_short (number_at 9 part.payload))
    (Document part.key (record {
      policy = slice_index part.payload 0;
      version = Some (long_number_at 1 part.payload);
      text = text_from 13 part pieces;
    }))
change_by (Some kind.Piece) part pieces = None
change_by (Some kind.Gone) part pieces =
    when (nat_lt 0 part.key && length part.payload == 0) (Gone part.key)
change_by (Some kind.Base) part pieces =
    when (is_some (low_in part.payload)) (Base part.key part.payload)
change_by (Some kind.Delta) part pieces = Some (Delta part.key part.payload)
change_by None part pieces = None

-- what an item says in an area of a version, or none where its head is outside the format
abbrev pub change_of : ℕ → Item → Option Change
change_of version item =
    change_by (kind_in version item.first.kind) item.first item.pieces
