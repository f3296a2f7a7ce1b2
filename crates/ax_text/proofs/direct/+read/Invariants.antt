-- What is made so far, before what is made of the tokens to come, is what is made of them all.
use Rattle.std.proofs.Common.{◌≡◌, ℕ, ◌+◌, ◌*◌, ◌≤◌, ◌++◌, length, Some}
use Rattle.json.specs.Json.{items, members, value, parse_map}
use Rattle.serde_json.specs.Data as serde
use Rattle.serde_json.specs.Read.{converted}
use Rattle.ax_tree.specs.Names.{HaveRisingNames}
use Rattle.ax_text.specs.OfJson.{items_of_json, members_of_json}
use Rattle.ax_text.specs.TreeOf.{members_of}
use Rattle.ax_text.proofs.Turns.{members_from}
use Rattle.ax_text.proofs.direct.+read.Given as goal

abbrev pub decreases-read : goal.decreases-read
decreases-read l = 2 * l.depth

abbrev pub decreases-read_items : goal.decreases-read_items
decreases-read_items l = 2 * l.depth + 1

abbrev pub decreases-read_members : goal.decreases-read_members
decreases-read_members l = 2 * l.depth + 1

abbrev pub invariant-read_items-items : goal.invariant-read_items-items
invariant-read_items-items l =
    (n : ℕ) × (length l.reader ≤ n)
    × (converted items_of_json
    (items (value l.depth) (length l.initial.reader) l.initial.reader)
    ≡ parse_map (λ rest. l.found.items ++ rest)
    (converted items_of_json (items (value l.depth) n l.reader)))
    × (length l.reader ≤ length l.initial.reader)

abbrev pub decreases-read_items-items : goal.decreases-read_items-items
decreases-read_items-items l = length l.reader

abbrev pub invariant-read_members-members : goal.invariant-read_members-members
invariant-read_members-members l =
    (old : serde.Members) × (n : ℕ) × (length l.reader ≤ n)
    × (members_of old ≡ Some l.found.items)
    × HaveRisingNames l.found.items
    × (converted members_of_json
    (members (value l.depth) (length l.initial.reader) l.initial.reader)
    ≡ converted (members_from old) (members (value l.depth) n l.reader))
    × (length l.reader ≤ length l.initial.reader)

abbrev pub decreases-read_members-members : goal.decreases-read_members-members
decreases-read_members-members l = length l.reader
