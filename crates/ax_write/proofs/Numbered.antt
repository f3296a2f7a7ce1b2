-- Which number each id has after a write of a document; and which ids of the table of those lately found have theirs still.
use Rattle.std.proofs.Common.{◌≡◌, ℕ, Bool, true, false, cond, List, [], ◌∷◌, ◌++◌, map, find, Option, Some, None, is_some, refl, sym, ap}
use Rattle.std.proofs.Common.{subst, ◌∙◌, ◌⊎◌, ⊎_elim}
use Rattle.std.specs.Prelude.{◌≢◌, ◌↔◌, if◌then◌else◌, not, option_map}
use Rattle.std.specs.List.{Contains, list_any}
use Rattle.std.specs.Str.{bytes_eq}
use Rattle.ax_container.specs.Container.{Container, Entry, contains, entry_of, has_id}
use Rattle.ax_container.specs.Writes.{created, deleted, new_entry, replaced, with_tree}
use Rattle.ax_container.proofs.Ids.{bytes_eq-false_sym, bytes_eq-other, bytes_eq-self, same_from_eq}
use Rattle.ax_container.proofs.Soundness.{id-with_tree, number-with_tree, or_none, without}
use Rattle.ax_image.proofs.Writing.{any_found}
use Rattle.ax_image_pairs.specs.Found.{number_in}
use Rattle.ax_policy.specs.declared.policy.Policy.{Policy}
use Rattle.ax_tree.specs.declared.tree.Tree.{Tree}

abbrev number_of : Option Entry → Option ℕ
number_of found = option_map (λ (entry : Entry). entry.number) found

pub is_absent : (id : List ℕ) (before : Container) → entry_of id before ≡ None → contains id before ≡ false
is_absent id before none = any_found id before.entries ∙ ap is_some none

-- ---- a document gets another tree

number_step : (other : List ℕ) (e x : Entry) (o p : Option Entry) → x.id ≡ e.id → x.number ≡ e.number → number_of o ≡ number_of p
    → number_of (if has_id other x then Some x else o) ≡ number_of (if has_id other e then Some e else p)
number_step other e x o p id number rest =
    ap (λ i. number_of (if bytes_eq i other then Some x else o)) id
    ∙ elim (bytes_eq e.id other) as (λ b. number_of (if b then Some x else o) ≡ number_of (if b then Some e else p)) [
      | true ↦ ap Some number
      | false ↦ rest
    ]

numbers_stay : (other id : List ℕ) (tree : Tree) (policy : Policy) (es : List Entry)
    → number_of (find (has_id other) (map (with_tree id tree policy) es)) ≡ number_of (find (has_id other) es)
numbers_stay other id tree policy [] = refl
numbers_stay other id tree policy (e ∷ es) =
    number_step other e (with_tree id tree policy e) (find (has_id other) (map (with_tree id tree policy) es)) (find (has_id other) es)
    (id-with_tree id tree policy e) (number-with_tree id tree policy e) (numbers_stay other id tree policy es)

pub numbers_replaced : (other id : List ℕ) (tree : Tree) (before : Container)
    → number_in other (replaced id tree before) ≡ number_in other before
numbers_replaced other id tree before = numbers_stay other id tree before.policy before.entries

-- ---- a document is new

created_step : (b new : Bool) (n : ℕ) (e : Entry) (o p : Option Entry) → (b ≡ true → new ≡ false)
    → number_of o ≡ cond new (Some n) (number_of p)
    → number_of (if b then Some e else o) ≡ cond new (Some n) (number_of (if b then Some e else p))
created_step true false n e o p other rest = refl
created_step true true n e o p other rest = absurd (let same : true ≡ false = other refl in cc)
created_step false new n e o p other rest = rest

last_number_is : (b : Bool) (new : Entry) → number_of (if b then Some new else None) ≡ cond b (Some new.number) None
last_number_is true new = refl
last_number_is false new = refl

numbers_behind : (other : List ℕ) (new : Entry) (es : List Entry) → list_any (has_id new.id) es ≡ false
    → number_of (find (has_id other) (es ++ new ∷ []))
    ≡ cond (bytes_eq new.id other) (Some new.number) (number_of (find (has_id other) es))
numbers_behind other new [] none = last_number_is (has_id other new) new
numbers_behind other new (e ∷ es) none =
    let parts = or_none (has_id new.id e) (list_any (has_id new.id) es) none in
    created_step (has_id other e) (bytes_eq new.id other) new.number e
    (find (has_id other) (es ++ new ∷ [])) (find (has_id other) es)
    (λ own. ap (bytes_eq new.id) (sym (same_from_eq e.id other own)) ∙ bytes_eq-false_sym e.id new.id parts.0)
    (numbers_behind other new es parts.1)

pub numbers_created : (other id : List ℕ) (tree : Tree) (before : Container) → entry_of id before ≡ None
    → number_in other (created id tree before) ≡ cond (bytes_eq id other) (Some before.next_number) (number_in other before)
numbers_created other id tree before none =
    numbers_behind other (new_entry id tree before) before.entries (is_absent id before none)

-- ---- a document is gone

other_step : (id other : List ℕ) (e : Entry) (es : List Entry) (b : Bool) → has_id id e ≡ b → bytes_eq id other ≡ false
    → find (has_id other) (without id es) ≡ find (has_id other) es
    → find (has_id other) (if not b then e ∷ without id es else without id es) ≡ (if has_id other e then Some e else find (has_id other) es)
other_step id other e es true own differs later =
    later ∙ ap (λ b. if b then Some e else find (has_id other) es) (sym (bytes_eq-other e.id id other own differs))
other_step id other e es false apart differs later = ap (λ rest. if has_id other e then Some e else rest) later

other_found : (id other : List ℕ) (es : List Entry) → bytes_eq id other ≡ false
    → find (has_id other) (without id es) ≡ find (has_id other) es
other_found id other [] differs = refl
other_found id other (e ∷ es) differs = other_step id other e es (has_id id e) refl differs (other_found id other es differs)

pub numbers_deleted : (other id : List ℕ) (before : Container) → bytes_eq id other ≡ false
    → number_in other (deleted id before) ≡ number_in other before
numbers_deleted other id before differs = ap number_of (other_found id other before.entries differs)

-- ---- the table of those lately found

-- each id stands in it under its number
abbrev pub AreRecent : List (List ℕ × ℕ) → Container → Type 0
AreRecent ids container = (id : List ℕ) (number : ℕ) → Contains ids (id, number) → number_in id container ≡ Some number

abbrev id_of : List ℕ × ℕ → List ℕ
id_of entry = entry.0

abbrev at_of : List ℕ × ℕ → ℕ
at_of entry = entry.1

-- ids that differ are told apart
told_apart : (id other : List ℕ) → other ≢ id → bytes_eq id other ≡ false
told_apart id other apart = by (bytes_eq id other) refl
  where
    by : (b : Bool) → bytes_eq id other ≡ b → bytes_eq id other ≡ false
    by true same = absurd (apart (sym (same_from_eq id other same)))
    by false differs = differs

pub recent_replaced : (ids : List (List ℕ × ℕ)) (id : List ℕ) (tree : Tree) (before : Container) → AreRecent ids before
    → AreRecent ids (replaced id tree before)
recent_replaced ids id tree before recent = λ other number there. numbers_replaced other id tree before ∙ recent other number there

pub recent_created : (old new : List (List ℕ × ℕ)) (id : List ℕ) (number : ℕ) (tree : Tree) (before : Container) → entry_of id before ≡ None
    → number ≡ before.next_number
    → ((entry : List ℕ × ℕ) → Contains new entry → (entry ≡ (id, number)) ⊎ (Contains old entry × (entry.0 ≢ id)))
    → AreRecent old before → AreRecent new (created id tree before)
recent_created old new id number tree before none next only recent = λ other n there.
    ⊎_elim
    (λ (same : (other, n) ≡ (id, number)).
    let is : other ≡ id = ap id_of same in
    let at : n ≡ number = ap at_of same in
    numbers_created other id tree before none
    ∙ ap (λ b. cond b (Some before.next_number) (number_in other before)) (ap (bytes_eq id) is ∙ bytes_eq-self id)
    ∙ ap Some (sym (at ∙ next)))
    (λ (kept : Contains old (other, n) × (other ≢ id)).
    numbers_created other id tree before none
    ∙ ap (λ b. cond b (Some before.next_number) (number_in other before)) (told_apart id other kept.1)
    ∙ recent other n kept.0)
    (only (other, n) there)

pub recent_deleted : (old new : List (List ℕ × ℕ)) (id : List ℕ) (before : Container)
    → ((number : ℕ) → Contains new (id, number) → ⊥)
    → ((entry : List ℕ × ℕ) → entry.0 ≢ id → Contains new entry ↔ Contains old entry)
    → AreRecent old before → AreRecent new (deleted id before)
recent_deleted old new id before gone others recent = λ other n there.
    let apart : other ≢ id = λ same. gone n (subst (λ i. Contains new (i, n)) same there) in
    numbers_deleted other id before (told_apart id other apart) ∙ recent other n ((others (other, n) apart).0 there)
