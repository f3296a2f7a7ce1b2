-- What the store holds: the documents in the order of their creation, each with its number, its id,
-- its tree and the policy by which it is indexed; the number that the next creation takes; and the
-- policy now, by which a document is indexed that is written now. As in Azure Cosmos DB for NoSQL, an
-- id names one document. Numbers begin at 1 and are never given twice.
use Rattle.std.specs.Prelude.{◌≡◌, ℕ, ◌<◌, ◌≤◌, ◌==◌, List, [], ◌∷◌, length, map, find, Bool, false, Option, Some, option_map}
use Rattle.std.specs.List.{list_any, AllByRecursion}
use Rattle.std.specs.Str.{bytes_eq}
use Rattle.ax_tree.specs.declared.tree.Tree.{Tree}
use Rattle.ax_tree.specs.Document.{document_id}
use Rattle.ax_storable.specs.Storable.{IsStorable}
use Rattle.ax_policy.specs.declared.policy.Policy.{Policy}
use Rattle.ax_policy.specs.Default.{default_policy}

-- one document that a container has
pub record Entry : Type 0 where
  pub number : ℕ
  pub id : List ℕ
  pub tree : Tree
  -- the policy by which it is indexed
  pub indexed_by : Policy

pub record Container : Type 0 where
  pub entries : List Entry
  pub next_number : ℕ
  -- the policy now
  pub policy : Policy

-- a container of no documents
abbrev pub fresh : Container
fresh = record { entries = []; next_number = 1; policy = default_policy }

-- the most documents that a container has
abbrev pub most_documents : ℕ
most_documents = 1048576

-- the greatest next number: no document takes it
abbrev pub last_number : ℕ
last_number = 4294967295

-- the entry is of the document of that id
abbrev pub has_id : List ℕ → Entry → Bool
has_id id entry = bytes_eq entry.id id

-- the container has a document of that id
abbrev pub contains : List ℕ → Container → Bool
contains id container = list_any (has_id id) container.entries

-- the entry of that id
abbrev pub entry_of : List ℕ → Container → Option Entry
entry_of id container = find (has_id id) container.entries

-- the tree of the document of that id
abbrev pub tree_of : List ℕ → Container → Option Tree
tree_of id container = option_map (λ entry. entry.tree) (entry_of id container)

-- the entry has that number
abbrev pub has_number : ℕ → Entry → Bool
has_number number entry = entry.number == number

-- the entry of that number
abbrev pub entry_at : ℕ → List Entry → Option Entry
entry_at number entries = find (has_number number) entries

-- the trees of all documents, in order
abbrev pub trees : Container → List Tree
trees container = map (λ entry. entry.tree) container.entries

-- each number is above the one before it, and the next number above all
abbrev pub NumbersRise : ℕ → List Entry → ℕ → Type 0
NumbersRise before [] next_number = before < next_number
NumbersRise before (entry ∷ entries) next_number =
    (before < entry.number) × NumbersRise entry.number entries next_number

-- no id stands twice
abbrev pub IdsAreDistinct : List Entry → Type 0
IdsAreDistinct [] = Unit {0}
IdsAreDistinct (entry ∷ entries) =
    (list_any (has_id entry.id) entries ≡ false) × IdsAreDistinct entries

-- the tree of an entry is a document of its id, which a store can hold
pub record IsStored (entry : Entry) : Type 0 where
  pub own_id : document_id entry.tree ≡ Some entry.id
  pub storable : IsStorable entry.tree

-- what holds of every container that writes lead to
pub record IsSound (container : Container) : Type 0 where
  pub numbers : NumbersRise 0 container.entries container.next_number
  pub last : container.next_number ≤ last_number
  pub few : length container.entries ≤ most_documents
  pub distinct : IdsAreDistinct container.entries
  pub stored : AllByRecursion IsStored container.entries
