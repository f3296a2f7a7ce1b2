-- When no document can be created in a store: it has as many as it may have, or the next number can be taken by none.
-- It is this project's own; it comes from no public document.
use Rattle.std.specs.Prelude.{ℕ, Bool, not, ◌&&◌, ◌||◌, nat_le, nat_lt}
use Rattle.std.specs.FinMap as map
use Rattle.ax_area.specs.Contents.{Contents}
use Rattle.ax_container.specs.Container.{last_number, most_documents}

-- a document can take the number: it is not 0, it is before the last, and no document has it
abbrev pub is_free_in : Contents → ℕ → Bool
is_free_in contents number = nat_lt 0 number && (nat_lt number last_number && not (map.contains_key contents.documents number))

abbrev pub is_full_of : Contents → Bool
is_full_of contents = nat_le most_documents (map.len contents.documents) || not (is_free_in contents contents.next_number)
