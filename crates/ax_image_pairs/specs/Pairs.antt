-- The pairs that a container has in its index: of each document the term of its id, and the terms that it
-- has under the policy by which it is indexed, each with the document's number.
-- As in Shukla et al., "Schema-Agnostic Indexing with Azure DocumentDB", VLDB 2015; what the bytes of a term
-- are, docs/FORMAT.md says.
use Rattle.std.specs.Prelude.{List, ℕ, Option, Some, None}
use Rattle.ax_container.specs.Container.{Entry, Container, entry_at}
use Rattle.ax_keep.specs.Owned.{HasIndexTerm}
use Rattle.ax_pair.specs.declared.pair.Pair.{Pair}

-- there is an entry, and its document has the term under the policy by which it is indexed
abbrev pub HasTermOf : Option Entry → List ℕ → Type 0
HasTermOf None bytes = ⊥
HasTermOf (Some entry) bytes = HasIndexTerm entry.indexed_by entry.tree bytes

-- the document of the pair's number has the pair's term
abbrev pub HasPair : Container → Pair → Type 0
HasPair container pair = HasTermOf (entry_at pair.number container.entries) pair.term
