-- The limits on the paths of an indexing policy. The size of a path is that of its encoding in
-- terms: one byte for `[]`; for a name its bytes, a byte 0 counted twice, and three more; and one
-- byte for the end.
use Rattle.std.specs.Prelude.{ℕ, ◌+◌, ◌-◌, List, length, sum_by, Bool, true, ◌&&◌, ◌==◌, nat_le, if◌then◌else◌, Option, Some, None}
use Rattle.std.specs.List.{list_all}
use Rattle.ax_mean.specs.declared.query.Step.{Step}
use Rattle.ax_mean.specs.declared.query.Step.TheVariants.{Name, Item}

-- the most bytes of a name
abbrev pub most_name_bytes : ℕ
most_name_bytes = 255

-- the most bytes of an encoded path, and of those of one composite together
abbrev pub most_path_bytes : ℕ
most_path_bytes = 1024

-- the most bytes of the normal text of a policy
abbrev pub most_policy_bytes : ℕ
most_policy_bytes = 60000

-- the most composites of a policy, and the least and most paths of one
abbrev pub most_composites : ℕ
most_composites = 8

abbrev pub least_paths : ℕ
least_paths = 2

abbrev pub most_paths : ℕ
most_paths = 8

abbrev pub byte_size : ℕ → ℕ
byte_size byte = if byte == 0 then 2 else 1

abbrev pub name_size : List ℕ → ℕ
name_size name = sum_by byte_size name + 3

abbrev pub step_size : Step → ℕ
step_size (Name name) = name_size name
step_size Item = 1

abbrev pub path_size : List Step → ℕ
path_size steps = sum_by step_size steps + 1

abbrev pub is_short_step : Step → Bool
is_short_step (Name name) = nat_le (length name) most_name_bytes
is_short_step Item = true

-- what something of this size leaves of some room
abbrev pub left_by : ℕ → ℕ → Option ℕ
left_by room size = if nat_le size room then Some (room - size) else None

-- the path is within the limits
abbrev pub is_short_path : List Step → Bool
is_short_path steps = list_all is_short_step steps && nat_le (path_size steps) most_path_bytes
