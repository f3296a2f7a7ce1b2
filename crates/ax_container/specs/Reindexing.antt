-- What a change of the policy and a step of the transformation do. A new policy leaves each document
-- under the one that it is indexed by, and is refused where documents are indexed by eight others; a
-- step gives the policy now to the first few documents that are under another one, and keeps all else. From the indexing-policy manual of
-- Azure Cosmos DB for NoSQL; two policies are the same where their normal texts are.
use Rattle.std.specs.Prelude.{ℕ, zero, suc, List, [], ◌∷◌, length, map, Bool, not, nat_le, if◌then◌else◌, count_by, Result, Ok, Err}
use Rattle.std.specs.List.{filter, list_any}
use Rattle.std.specs.Str.{bytes_eq}
use Rattle.ax_tree.specs.declared.tree.Tree.{Tree}
use Rattle.ax_policy.specs.declared.policy.Policy.{Policy}
use Rattle.ax_policy.specs.Normal.{normal_text}
use Rattle.ax_container.specs.Container.{Entry, Container}

-- the container with another policy now
abbrev pub with_policy : Policy → Container → Container
with_policy policy container = record container { policy = policy }

-- why another policy is refused
pub data PolicyRefusal : Type 0 where
  -- documents are indexed by as many other policies as may be in use
  Policies : PolicyRefusal

-- each text once
abbrev pub distinct : List (List ℕ) → List (List ℕ)
distinct [] = []
distinct (text ∷ texts) = if list_any (bytes_eq text) texts then distinct texts else text ∷ distinct texts

-- the normal texts of the policies by which documents are indexed, but for that one
abbrev pub others_in_use : Policy → Container → List (List ℕ)
others_in_use policy container =
    distinct (filter (λ text. not (bytes_eq text (normal_text policy)))
    (map (λ entry. normal_text entry.indexed_by) container.entries))

-- the most of them that may be in use
abbrev pub most_others : ℕ
most_others = 8

-- so many are
abbrev pub is_crowded : Policy → Container → Bool
is_crowded policy container = nat_le most_others (length (others_in_use policy container))

-- what a change of the policy makes, or why it is refused
abbrev pub repoliced : Policy → Container → Result Container PolicyRefusal
repoliced policy container = if is_crowded policy container then Err Policies else Ok (with_policy policy container)

-- the entry is indexed by another policy
abbrev pub is_behind : Policy → Entry → Bool
is_behind policy entry = not (bytes_eq (normal_text entry.indexed_by) (normal_text policy))

-- what no policy changes of an entry: its number, its id and its tree
abbrev pub but_policy : Entry → ℕ × (List ℕ × Tree)
but_policy entry = (entry.number, (entry.id, entry.tree))

-- the entry, indexed by that policy
abbrev pub moved : Policy → Entry → Entry
moved policy entry = record entry { indexed_by = policy }

-- the first so many that are behind are moved, or all where there are fewer
abbrev pub moved_first : ℕ → Policy → List Entry → List Entry
moved_first zero policy entries = entries
moved_first (suc count) policy [] = []
moved_first (suc count) policy (entry ∷ entries) =
    if is_behind policy entry
    then moved policy entry ∷ moved_first count policy entries
    else entry ∷ moved_first (suc count) policy entries

-- after a step that moves so many
abbrev pub stepped : ℕ → Container → Container
stepped count container =
    record container { entries = moved_first count container.policy container.entries }

-- how many documents are behind
abbrev pub left : Container → ℕ
left container = count_by (is_behind container.policy) container.entries
