-- The parts of the batch by which a policy becomes the one now, and the changes that they say: its text, where its number has
-- another one or none, and the meta. Nothing else is written.
-- From the store's own file format (docs/FORMAT.md, "Parts"); no other document has it.
use Rattle.std.specs.Prelude.{ℕ, ◌==◌, List, [], ◌∷◌, Bool, true, false, if◌then◌else◌}
use Rattle.ax_area.specs.Changes.{Change}
use Rattle.ax_area.specs.Changes as change
use Rattle.ax_frame.specs.Part.{PartValue}
use Rattle.ax_image.specs.WriteChanges.{meta_change}
use Rattle.ax_pages.specs.declared.numbers.TheConstants.{POLICY}
use Rattle.ax_policy.specs.Normal.{normal_text}
use Rattle.ax_policy.specs.Table.{Table, is_text_of, policy_at}
use Rattle.ax_policy.specs.declared.policy.Policy.{Policy}
use Rattle.ax_write.specs.Batches.{meta_part}

-- the text of the policy of that number
abbrev pub text_part : ℕ → List ℕ → PartValue
text_part number text = record { kind = POLICY; key = number; payload = text }

-- the next number as the meta tells it: no meta can tell 0, and no image does
abbrev pub next_told : ℕ → ℕ
next_told next = if next == 0 then 1 else next

-- the number has a policy of that very text in the table
abbrev pub is_written : Policy → Table → ℕ → Bool
is_written policy table number = is_text_of (normal_text policy) (policy_at table number)

-- the parts, by whether the number has the policy's text
abbrev pub parts_unless : Bool → ℕ → ℕ → Policy → List PartValue
parts_unless true next number policy = meta_part next number ∷ []
parts_unless false next number policy = text_part number (normal_text policy) ∷ meta_part next number ∷ []

abbrev pub setting_parts : ℕ → ℕ → Policy → Table → List PartValue
setting_parts next number policy table = parts_unless (is_written policy table number) (next_told next) number policy

-- the changes that they say
abbrev pub changes_unless : Bool → ℕ → ℕ → Policy → List Change
changes_unless true next number policy = meta_change next number ∷ []
changes_unless false next number policy = change.Policy number (normal_text policy) ∷ meta_change next number ∷ []

abbrev pub setting_changes : ℕ → ℕ → Policy → Table → List Change
setting_changes next number policy table = changes_unless (is_written policy table number) (next_told next) number policy
