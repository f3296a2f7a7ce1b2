-- What a write of a document does. A creation puts it behind all others under the next number; a
-- replacement gives the document of that id the tree, and it keeps its position and its number; both
-- are indexed by the policy now. A deletion takes it away, and the next number stays. A creation is
-- refused where the id is held, and else where the container is full; a replacement and a deletion where
-- the id is not held. An upsert is a replacement where the id is held, and else a creation. A write that
-- is refused changes nothing.
use Rattle.std.specs.Prelude.{ℕ, ◌+◌, List, [], ◌∷◌, ◌++◌, length, map, Bool, not, ◌||◌, nat_le, if◌then◌else◌, Result, Ok, Err}
use Rattle.std.specs.List.{filter}
use Rattle.ax_tree.specs.declared.tree.Tree.{Tree}
use Rattle.ax_policy.specs.declared.policy.Policy.{Policy}
use Rattle.ax_container.specs.Container.{Entry, Container, most_documents, last_number, has_id, contains}

-- why a write is refused
pub data WriteRefusal : Type 0 where
  -- a document of that id is held
  Conflict : WriteRefusal
  -- no document of that id is held
  Absent : WriteRefusal
  -- no document can be created
  Full : WriteRefusal

-- the entry with another tree, indexed by that policy
abbrev pub rewritten : Tree → Policy → Entry → Entry
rewritten tree policy entry =
    record { number = entry.number; id = entry.id; tree = tree; indexed_by = policy }

-- the same where it is of the document of that id
abbrev pub with_tree : List ℕ → Tree → Policy → Entry → Entry
with_tree id tree policy entry = if has_id id entry then rewritten tree policy entry else entry

abbrev pub replaced : List ℕ → Tree → Container → Container
replaced id tree container = record {
  entries = map (with_tree id tree container.policy) container.entries;
  next_number = container.next_number;
  policy = container.policy;
}

-- the entry that a creation makes
abbrev pub new_entry : List ℕ → Tree → Container → Entry
new_entry id tree container =
    record { number = container.next_number; id = id; tree = tree; indexed_by = container.policy }

abbrev pub created : List ℕ → Tree → Container → Container
created id tree container = record {
  entries = container.entries ++ new_entry id tree container ∷ [];
  next_number = container.next_number + 1;
  policy = container.policy;
}

abbrev pub deleted : List ℕ → Container → Container
deleted id container = record {
  entries = filter (λ entry. not (has_id id entry)) container.entries;
  next_number = container.next_number;
  policy = container.policy;
}

-- no document can be created: there are as many as there may be, or no number is left
abbrev pub is_full : Container → Bool
is_full container =
    nat_le most_documents (length container.entries) || nat_le last_number container.next_number

-- after the creation of a document whose id the container does not have
abbrev pub creation : List ℕ → Tree → Container → Result Container WriteRefusal
creation id tree container = if is_full container then Err Full else Ok (created id tree container)

-- after the creation of a document, or why it is refused
abbrev pub inserted : List ℕ → Tree → Container → Result Container WriteRefusal
inserted id tree container =
    if contains id container then Err Conflict else creation id tree container

-- after the replacement of the document of that id, or why it is refused
abbrev pub exchanged : List ℕ → Tree → Container → Result Container WriteRefusal
exchanged id tree container =
    if contains id container then Ok (replaced id tree container) else Err Absent

-- after the deletion of the document of that id, or why it is refused
abbrev pub removed : List ℕ → Container → Result Container WriteRefusal
removed id container = if contains id container then Ok (deleted id container) else Err Absent

-- after an upsert of the document of that id, or why it is refused
abbrev pub upserted : List ℕ → Tree → Container → Result Container WriteRefusal
upserted id tree container =
    if contains id container then Ok (replaced id tree container) else creation id tree container
