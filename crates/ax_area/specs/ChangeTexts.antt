-- Changes as bytes have them. Only clauses of calls that read bytes cite these.
use Rattle.std.specs.Prelude.{List, ◌++◌}
use Rattle.std.specs.List.{flat_map}
use Rattle.ax_frame.specs.Part.{PartValue}
use Rattle.ax_area.specs.Changes.{Change, Written, Numbers}
use Rattle.ax_area.specs.Changes as change
use Rattle.ax_area.specs.declared.change.ChangeText.{ChangeText}
use Rattle.ax_area.specs.declared.change.ChangeText.TheVariants as text

-- the change, whose text goes on in these pieces
abbrev pub change_value : List PartValue → ChangeText → Change
change_value pieces (text.Meta next policy version) =
    change.Meta (record { next = next; policy = policy; version = version })
change_value pieces (text.Document number policy version front) =
    change.Document number (record {
      policy = policy;
      version = version;
      text = front.now ++ flat_map (λ piece. piece.payload) pieces;
    })
change_value pieces (text.Gone number) = change.Gone number
change_value pieces (text.Policy number front) = change.Policy number front.now
change_value pieces (text.Base page payload) = change.Base page payload.now
change_value pieces (text.Delta page payload) = change.Delta page payload.now
