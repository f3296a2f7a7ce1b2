-- What a store holds, with policies and versions: the documents in the order of their creation, the
-- numbers that the next ones take, and the policy now. `ax_container` has the same without versions,
-- which no line has yet; this takes its place when lines do.
use Rattle.std.specs.Prelude.{◌≡◌, ℕ, ◌<◌, ◌==◌, List, [], ◌∷◌, false}
use Rattle.std.specs.List.{list_any, AllByRecursion}
use Rattle.std.specs.Str.{bytes_eq}
use Rattle.ax_tree.specs.declared.tree.Tree.{Tree}
use Rattle.ax_policy.specs.declared.policy.Policy.{Policy}
use Rattle.ax_policy.specs.Default.{default_policy}

pub record Entry : Type 0 where
  pub number : ℕ
  pub id : List ℕ
  pub tree : Tree
  pub indexed_by : Policy
  pub version : ℕ

pub record Container : Type 0 where
  pub entries : List Entry
  pub next_number : ℕ
  pub next_version : ℕ
  pub policy_now : Policy

-- a container of no documents
abbrev pub fresh : Container
fresh = record {
  entries = [];
  next_number = 1;
  next_version = 1;
  policy_now = default_policy;
}

-- each has another id and another version than those behind it
abbrev pub AreDistinct : List Entry → Type 0
AreDistinct [] = Unit {0}
AreDistinct (entry ∷ entries) =
    (list_any (λ other. bytes_eq other.id entry.id) entries ≡ false)
    × (list_any (λ other. other.version == entry.version) entries ≡ false)
    × AreDistinct entries

pub record IsSound (container : Container) : Type 0 where
  pub numbers : AllByRecursion (λ entry. entry.number < container.next_number) container.entries
  pub versions : AllByRecursion (λ entry. entry.version < container.next_version) container.entries
  pub distinct : AreDistinct container.entries
