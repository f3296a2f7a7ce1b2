-- The documents whose numbers are in a list: chosen from all, in the order of these, and fetched in the order of the list.
-- It is this project's own; it comes from no public document.
use Rattle.std.specs.Prelude.{ℕ, List, Option, option_map}
use Rattle.std.specs.List.{filter, filter_map}
use Rattle.ax_tree.specs.declared.tree.Tree.{Tree}
use Rattle.ax_container.specs.Container.{Container, entry_at}
use Rattle.ax_delta.specs.Said.{has_number}
use Rattle.ax_machine.specs.Querying.{numbered}

-- of all documents those with one of the numbers, each its number and its tree
abbrev pub chosen : List ℕ → Container → List (ℕ × Tree)
chosen numbers container = filter (λ document. has_number document.0 numbers) (numbered container)

-- the document of a number, where there is one
abbrev pub document_at : Container → ℕ → Option (ℕ × Tree)
document_at container number = option_map (λ entry. (number, entry.tree)) (entry_at number container.entries)

-- the documents of the numbers, one after another; nothing for a number that none has
abbrev pub fetched : List ℕ → Container → List (ℕ × Tree)
fetched numbers container = filter_map (document_at container) numbers
