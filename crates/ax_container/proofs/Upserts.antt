-- What an upsert does to the entries.
use Rattle.std.proofs.Common.{◌≡◌, ℕ, List, [], ◌∷◌, ◌++◌, map, Bool, true, false, true≢false, cond, Option, Some}
use Rattle.std.proofs.Common.{None, option_map, IfSome, Result, Ok, Err, find, ◌||◌, refl, sym, ap, ◌∙◌, subst}
use Rattle.std.specs.List.{list_any}
use Rattle.std.specs.Str.{bytes_eq}
use Rattle.ax_tree.specs.declared.tree.Tree.{Tree}
use Rattle.ax_policy.specs.declared.policy.Policy.{Policy}
use Rattle.ax_container.specs.Container.{Entry, Container, has_id, contains, entry_of, tree_of, IsSound}
use Rattle.ax_container.specs.Writes.{WriteRefusal, Full, with_tree, replaced, new_entry, created, is_full, creation, upserted}
use Rattle.ax_container.proofs.Ids.{bytes_eq-self, bytes_eq-other}
use Rattle.ax_container.proofs.Soundness.{the_entry, MayBe, or_none, id-with_tree, sound_replaced, sound_created}

-- what a write that is not refused leads to is one container
abbrev pub done : Container → Result Container WriteRefusal
done container = Ok container

pub done_same : (a b : Container) → done a ≡ done b → a ≡ b
done_same a b e = cc

-- ---- the ways of an upsert that is not refused: a document is replaced, or created in free room

pub upsert_cases : (id : List ℕ) (tree : Tree) (c after : Container) (P : Container → Type 0)
    → (contains id c ≡ true → P (replaced id tree c))
    → (contains id c ≡ false → is_full c ≡ false → P (created id tree c))
    → upserted id tree c ≡ Ok after → P after
upsert_cases id tree c after P replaces creates = by_place (contains id c) refl
  where
    by_room : (full : Bool) → is_full c ≡ full → contains id c ≡ false
        → cond full (Err Full) (Ok (created id tree c)) ≡ Ok after → P after
    by_room true full absent e = absurd (cc)
    by_room false space absent e = subst P (done_same _ _ e) (creates absent space)

    by_place : (there : Bool) → contains id c ≡ there
        → cond there (Ok (replaced id tree c)) (creation id tree c) ≡ Ok after → P after
    by_place true there e = subst P (done_same _ _ e) (replaces there)
    by_place false absent e = by_room (is_full c) refl absent e

pub upsert_keeps_soundness : (before after : Container) (id : List ℕ) (tree : Tree)
    → MayBe id tree before.policy
    → IsSound before → upserted id tree before ≡ Ok after → IsSound after
upsert_keeps_soundness before after id tree new h =
    upsert_cases id tree before after IsSound
    (λ there. sound_replaced id tree before new h)
    (λ absent space. sound_created id tree before absent space new h)

-- ---- the entry of an id

pub with_tree-own : (id : List ℕ) (tree : Tree) (policy : Policy) (e : Entry) → has_id id e ≡ true
    → with_tree id tree policy e ≡ the_entry e.number e.id tree policy
with_tree-own id tree policy e own =
    ap (λ b. cond b (the_entry e.number e.id tree policy) e) own

pub with_tree-other : (id : List ℕ) (tree : Tree) (policy : Policy) (e : Entry) → has_id id e ≡ false
    → with_tree id tree policy e ≡ e
with_tree-other id tree policy e differs =
    ap (λ b. cond b (the_entry e.number e.id tree policy) e) differs

-- one entry in front, which is of the id or is not
found_first : (id : List ℕ) (e : Entry) (es : List Entry) → has_id id e ≡ true
    → find (has_id id) (e ∷ es) ≡ Some e
found_first id e es own = ap (λ b. cond b (Some e) (find (has_id id) es)) own

found_later : (id : List ℕ) (e : Entry) (es : List Entry) → has_id id e ≡ false
    → find (has_id id) (e ∷ es) ≡ find (has_id id) es
found_later id e es differs = ap (λ b. cond b (Some e) (find (has_id id) es)) differs

-- the entry of the id itself has the tree, and the number that it had
replaced_one : (id : List ℕ) (tree : Tree) (policy : Policy) (e : Entry) (es : List Entry) (b : Bool)
    → has_id id e ≡ b
    → find (has_id id) (map (with_tree id tree policy) es) ≡ option_map
    (λ a. the_entry a.number a.id tree policy) (find (has_id id) es)
    → find (has_id id) (map (with_tree id tree policy) (e ∷ es)) ≡ option_map
    (λ a. the_entry a.number a.id tree policy) (find (has_id id) (e ∷ es))
replaced_one id tree policy e es true own later =
    found_first id (with_tree id tree policy e) (map (with_tree id tree policy) es)
    (ap (λ x. bytes_eq x id) (id-with_tree id tree policy e) ∙ own)
    ∙ ap Some (with_tree-own id tree policy e own)
    ∙ ap (option_map (λ a. the_entry a.number a.id tree policy))
    (sym (found_first id e es own))
replaced_one id tree policy e es false differs later =
    found_later id (with_tree id tree policy e) (map (with_tree id tree policy) es)
    (ap (λ x. bytes_eq x id) (id-with_tree id tree policy e) ∙ differs)
    ∙ later
    ∙ ap (option_map (λ a. the_entry a.number a.id tree policy))
    (sym (found_later id e es differs))

find_replaced-same : (id : List ℕ) (tree : Tree) (policy : Policy) (es : List Entry)
    → find (has_id id) (map (with_tree id tree policy) es) ≡ option_map
    (λ a. the_entry a.number a.id tree policy) (find (has_id id) es)
find_replaced-same id tree policy [] = refl
find_replaced-same id tree policy (e ∷ es) =
    replaced_one id tree policy e es (has_id id e) refl (find_replaced-same id tree policy es)

-- an entry of another id is as before
other_one : (id other : List ℕ) (tree : Tree) (policy : Policy) (e : Entry) (es : List Entry) (b : Bool)
    → has_id id e ≡ b → bytes_eq id other ≡ false
    → find (has_id other) (map (with_tree id tree policy) es) ≡ find (has_id other) es
    → find (has_id other) (map (with_tree id tree policy) (e ∷ es)) ≡ find (has_id other) (e ∷ es)
other_one id other tree policy e es true own differs later =
    let not_it : has_id other e ≡ false = bytes_eq-other e.id id other own differs in
    found_later other (with_tree id tree policy e) (map (with_tree id tree policy) es)
    (ap (λ x. bytes_eq x other) (id-with_tree id tree policy e) ∙ not_it)
    ∙ later ∙ sym (found_later other e es not_it)
other_one id other tree policy e es false own differs later =
    λ i. cond (has_id other (with_tree-other id tree policy e own i))
    (Some (with_tree-other id tree policy e own i)) (later i)

find_replaced-other : (id other : List ℕ) (tree : Tree) (policy : Policy) (es : List Entry)
    → bytes_eq id other ≡ false
    → find (has_id other) (map (with_tree id tree policy) es) ≡ find (has_id other) es
find_replaced-other id other tree policy [] differs = refl
find_replaced-other id other tree policy (e ∷ es) differs =
    other_one id other tree policy e es (has_id id e) refl differs
    (find_replaced-other id other tree policy es differs)

find_created-other : (other : List ℕ) (new : Entry) (es : List Entry) → has_id other new ≡ false
    → find (has_id other) (es ++ new ∷ []) ≡ find (has_id other) es
find_created-other other new [] differs = found_later other new [] differs
find_created-other other new (e ∷ es) differs =
    ap (cond (has_id other e) (Some e)) (find_created-other other new es differs)

find_none : (id : List ℕ) (es : List Entry) → list_any (has_id id) es ≡ false
    → find (has_id id) es ≡ None
find_none id [] none = refl
find_none id (e ∷ es) none =
    let parts = or_none (has_id id e) (list_any (has_id id) es) none in
    found_later id e es parts.0 ∙ find_none id es parts.1

find_created-same : (id : List ℕ) (new : Entry) (es : List Entry) → list_any (has_id id) es ≡ false
    → has_id id new ≡ true → find (has_id id) (es ++ new ∷ []) ≡ Some new
find_created-same id new [] none own = found_first id new [] own
find_created-same id new (e ∷ es) none own =
    let parts = or_none (has_id id e) (list_any (has_id id) es) none in
    found_later id e (es ++ new ∷ []) parts.0 ∙ find_created-same id new es parts.1 own

-- some entry is found where the container has one
some_first : (id : List ℕ) (e : Entry) (es : List Entry) (b : Bool) → has_id id e ≡ b
    → (has_id id e ≡ false → (a : Entry) × (find (has_id id) es ≡ Some a))
    → (a : Entry) × (find (has_id id) (e ∷ es) ≡ Some a)
some_first id e es true own later = (e, found_first id e es own)
some_first id e es false differs later =
    ((later differs).0, found_later id e es differs ∙ (later differs).1)

find_some : (id : List ℕ) (es : List Entry) → list_any (has_id id) es ≡ true
    → (e : Entry) × (find (has_id id) es ≡ Some e)
find_some id [] there = absurd (true≢false (sym there))
find_some id (e ∷ es) there = some_first id e es (has_id id e) refl
    (λ differs. find_some id es (sym (ap (λ b. b || list_any (has_id id) es) differs) ∙ there))

-- what an upsert leaves under the id, by which policy, under another id, and of the number
pub record SetsOne (id : List ℕ) (tree : Tree) (before after : Container) : Type 0 where
  pub one : tree_of id after ≡ Some tree
  pub indexed : option_map (λ a. a.indexed_by) (entry_of id after) ≡ Some before.policy
  pub number : IfSome (entry_of id before)
      (λ e. option_map (λ a. a.number) (entry_of id after) ≡ Some e.number)
  pub others : (other : List ℕ) → bytes_eq id other ≡ false
      → entry_of other after ≡ entry_of other before

number_kept : (o after : Option Entry) (tree : Tree) (policy : Policy)
    → after ≡ option_map (λ a. the_entry a.number a.id tree policy) o
    → IfSome o (λ e. option_map (λ a. a.number) after ≡ Some e.number)
number_kept None after tree policy e = tt
number_kept (Some entry) after tree policy e = ap (option_map (λ a. a.number)) e

pub upsert_sets_one : (before after : Container) (id : List ℕ) (tree : Tree)
    → upserted id tree before ≡ Ok after
    → SetsOne id tree before after
upsert_sets_one before after id tree =
    upsert_cases id tree before after (SetsOne id tree before) replaces creates
  where
    new : Entry
    new = new_entry id tree before

    replaces : contains id before ≡ true → SetsOne id tree before (replaced id tree before)
    replaces there = let found = find_some id before.entries there in record {
      one =
          ap (option_map (λ a. a.tree))
          (find_replaced-same id tree before.policy before.entries
          ∙ ap (option_map (λ a. the_entry a.number a.id tree before.policy)) found.1);
      indexed =
          ap (option_map (λ a. a.indexed_by))
          (find_replaced-same id tree before.policy before.entries
          ∙ ap (option_map (λ a. the_entry a.number a.id tree before.policy)) found.1);
      number =
          number_kept (entry_of id before) (entry_of id (replaced id tree before)) tree before.policy
          (find_replaced-same id tree before.policy before.entries);
      others = λ other differs. find_replaced-other id other tree before.policy before.entries differs;
    }

    creates : contains id before ≡ false → is_full before ≡ false
        → SetsOne id tree before (created id tree before)
    creates absent space = record {
      one =
          ap (option_map (λ a. a.tree))
          (find_created-same id new before.entries absent (bytes_eq-self id));
      indexed =
          ap (option_map (λ a. a.indexed_by))
          (find_created-same id new before.entries absent (bytes_eq-self id));
      number = let P : Option Entry
          → Type 0 = λ o. IfSome o
          (λ e. option_map (λ a. a.number) (entry_of id (created id tree before)) ≡ Some e.number)
          in subst P (sym (find_none id before.entries absent)) tt;
      others = λ other differs. find_created-other other new before.entries differs;
    }
