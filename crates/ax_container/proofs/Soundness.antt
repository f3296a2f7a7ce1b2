-- Each change of a container keeps what holds of every container.
use Rattle.std.proofs.Common.{◌≡◌, ℕ, zero, suc, ◌+◌, ◌<◌, ◌≤◌, List, [], ◌∷◌, ◌++◌, length, map}
use Rattle.std.proofs.Common.{Bool, true, false, true≢false, cond, ◌||◌, refl, sym, ap, ◌∙◌, subst, arith, length-append}
use Rattle.std.proofs.lemmas.Bool.{leb-false}
use Rattle.std.proofs.lemmas.List.{length-map}
use Rattle.std.specs.List.{list_any, AllByRecursion, filter}
use Rattle.std.specs.Prelude.{nat_le, not}
use Rattle.std.specs.Str.{bytes_eq}
use Rattle.ax_tree.specs.declared.tree.Tree.{Tree}
use Rattle.ax_policy.specs.declared.policy.Policy.{Policy}
use Rattle.ax_container.specs.Container.{Entry, Container, most_documents, last_number, has_id, contains, NumbersRise, IdsAreDistinct, IsStored, IsSound}
use Rattle.ax_container.specs.Writes.{with_tree, replaced, new_entry, created, deleted, is_full}
use Rattle.ax_container.specs.Reindexing.{with_policy, is_behind, moved, moved_first, stepped}
use Rattle.ax_container.proofs.Ids.{same_from_eq, bytes_eq-false_sym}

abbrev pub the_entry : ℕ → List ℕ → Tree → Policy → Entry
the_entry number id tree policy = record { number = number; id = id; tree = tree; indexed_by = policy }

-- ---- a document is replaced

pub number-with_tree : (id : List ℕ) (tree : Tree) (policy : Policy) (e : Entry) → (with_tree id tree policy e).number ≡ e.number
number-with_tree id tree policy e =
    elim (has_id id e) as
    (λ b. (cond b (the_entry e.number e.id tree policy) e).number ≡ e.number)
    [ true ↦ refl | false ↦ refl ]

pub id-with_tree : (id : List ℕ) (tree : Tree) (policy : Policy) (e : Entry) → (with_tree id tree policy e).id ≡ e.id
id-with_tree id tree policy e =
    elim (has_id id e) as
    (λ b. (cond b (the_entry e.number e.id tree policy) e).id ≡ e.id)
    [ true ↦ refl | false ↦ refl ]

numbers_replaced : (id : List ℕ) (tree : Tree) (policy : Policy) (es : List Entry) (before next : ℕ)
    → NumbersRise before es next → NumbersRise before (map (with_tree id tree policy) es) next
numbers_replaced id tree policy [] before next h = h
numbers_replaced id tree policy (e ∷ es) before next h =
    let P : ℕ → Type 0 = λ n. (before < n) × NumbersRise n (map (with_tree id tree policy) es) next in
    subst P (sym (number-with_tree id tree policy e)) (h.0, numbers_replaced id tree policy es e.number next h.1)

any_replaced : (other id : List ℕ) (tree : Tree) (policy : Policy) (es : List Entry)
    → list_any (has_id other) (map (with_tree id tree policy) es) ≡ list_any (has_id other) es
any_replaced other id tree policy [] = refl
any_replaced other id tree policy (e ∷ es) =
    λ i. bytes_eq (id-with_tree id tree policy e i) other || any_replaced other id tree policy es i

distinct_replaced : (id : List ℕ) (tree : Tree) (policy : Policy) (es : List Entry) → IdsAreDistinct es
    → IdsAreDistinct (map (with_tree id tree policy) es)
distinct_replaced id tree policy [] h = h
distinct_replaced id tree policy (e ∷ es) h = (
  ap (λ x. list_any (has_id x) (map (with_tree id tree policy) es)) (id-with_tree id tree policy e)
      ∙ any_replaced e.id id tree policy es ∙ h.0,
  distinct_replaced id tree policy es h.1,
)

-- each number and each id that is this one has such an entry
abbrev pub MayBe : List ℕ → Tree → Policy → Type 0
MayBe id tree policy = (number : ℕ) (own : List ℕ) → own ≡ id → IsStored (the_entry number own tree policy)

stored_with_tree : (id : List ℕ) (tree : Tree) (policy : Policy) (e : Entry) (b : Bool) → has_id id e ≡ b
    → ((own : List ℕ) → own ≡ id → IsStored (the_entry e.number own tree policy))
    → IsStored e
    → IsStored (cond b (the_entry e.number e.id tree policy) e)
stored_with_tree id tree policy e true same new old = new e.id (same_from_eq e.id id same)
stored_with_tree id tree policy e false same new old = old

stored_replaced : (id : List ℕ) (tree : Tree) (policy : Policy) (es : List Entry)
    → MayBe id tree policy
    → AllByRecursion IsStored es → AllByRecursion IsStored (map (with_tree id tree policy) es)
stored_replaced id tree policy [] new h = h
stored_replaced id tree policy (e ∷ es) new h = (
  stored_with_tree id tree policy e (has_id id e) refl (new e.number) h.0,
  stored_replaced id tree policy es new h.1,
)

pub sound_replaced : (id : List ℕ) (tree : Tree) (c : Container)
    → MayBe id tree c.policy → IsSound c → IsSound (replaced id tree c)
sound_replaced id tree c new h = record {
  numbers = numbers_replaced id tree c.policy c.entries 0 c.next_number h.numbers;
  last = h.last;
  few = subst (λ n. n ≤ most_documents) (sym (length-map c.entries (with_tree id tree c.policy))) h.few;
  distinct = distinct_replaced id tree c.policy c.entries h.distinct;
  stored = stored_replaced id tree c.policy c.entries new h.stored;
}

-- ---- a document is created

numbers_created : (new : Entry) (es : List Entry) (before : ℕ) → NumbersRise before es new.number
    → NumbersRise before (es ++ new ∷ []) (new.number + 1)
numbers_created new [] before h = (h, omega arith)
numbers_created new (e ∷ es) before h = (h.0, numbers_created new es e.number h.1)

pub or_none : (a b : Bool) → (a || b) ≡ false → (a ≡ false) × (b ≡ false)
or_none true b e = absurd (true≢false e)
or_none false b e = (refl, e)

any_created : (id : List ℕ) (new : Entry) (es : List Entry) → list_any (has_id id) es ≡ false
    → has_id id new ≡ false → list_any (has_id id) (es ++ new ∷ []) ≡ false
any_created id new [] none other = ap (λ b. b || false) other
any_created id new (e ∷ es) none other =
    let parts = or_none (has_id id e) (list_any (has_id id) es) none in
    ap (λ b. b || list_any (has_id id) (es ++ new ∷ [])) parts.0
    ∙ any_created id new es parts.1 other

distinct_created : (new : Entry) (es : List Entry) → list_any (has_id new.id) es ≡ false
    → IdsAreDistinct es → IdsAreDistinct (es ++ new ∷ [])
distinct_created new [] none h = (refl, tt)
distinct_created new (e ∷ es) none h =
    let parts = or_none (has_id new.id e) (list_any (has_id new.id) es) none in (
      any_created e.id new es h.0 (bytes_eq-false_sym e.id new.id parts.0),
      distinct_created new es parts.1 h.1,
    )

stored_created : (new : Entry) (es : List Entry) → IsStored new → AllByRecursion IsStored es
    → AllByRecursion IsStored (es ++ new ∷ [])
stored_created new [] stored h = (stored, tt)
stored_created new (e ∷ es) stored h = (h.0, stored_created new es stored h.1)

-- a container that is not full has room for one more
pub room : (c : Container) → is_full c ≡ false
    → (length c.entries < most_documents) × (c.next_number < last_number)
room c e =
    let parts =
    or_none (nat_le most_documents (length c.entries)) (nat_le last_number c.next_number) e in (
      leb-false most_documents (length c.entries) parts.0,
      leb-false last_number c.next_number parts.1,
    )

few_created : (new : Entry) (es : List Entry) → length es < most_documents
    → length (es ++ new ∷ []) ≤ most_documents
few_created new es few = omega (arith, length-append es (new ∷ []))

pub sound_created : (id : List ℕ) (tree : Tree) (c : Container) → contains id c ≡ false
    → is_full c ≡ false → MayBe id tree c.policy → IsSound c → IsSound (created id tree c)
sound_created id tree c absent space new h =
    let left : (length c.entries < most_documents) × (c.next_number < last_number) = room c space in
    record {
      numbers = numbers_created (new_entry id tree c) c.entries 0 h.numbers;
      last = let below : c.next_number < last_number = left.1 in omega arith;
      few = few_created (new_entry id tree c) c.entries left.0;
      distinct = distinct_created (new_entry id tree c) c.entries absent h.distinct;
      stored = stored_created (new_entry id tree c) c.entries (new c.next_number id refl) h.stored;
    }

-- ---- a document is deleted

rises_lower : (lower before next : ℕ) (es : List Entry) → lower < before → NumbersRise before es next → NumbersRise lower es next
rises_lower lower before next [] less h = omega arith
rises_lower lower before next (e ∷ es) less h = let above : before < e.number = h.0 in (omega arith, h.1)

abbrev pub without : List ℕ → List Entry → List Entry
without id es = filter (λ e. not (has_id id e)) es

pub numbers_without : (id : List ℕ) (es : List Entry) (before next : ℕ) → NumbersRise before es next → NumbersRise before (without id es) next
numbers_without id [] before next h = h
numbers_without id (e ∷ es) before next h =
    let rest : NumbersRise e.number (without id es) next = numbers_without id es e.number next h.1 in
    elim (has_id id e) as (λ b. NumbersRise before (cond (not b) (e ∷ without id es) (without id es)) next) [
      | true ↦ rises_lower before e.number next (without id es) h.0 rest
      | false ↦ (h.0, rest)
    ]

few_without : (id : List ℕ) (es : List Entry) → length (without id es) ≤ length es
few_without id [] = omega arith
few_without id (e ∷ es) =
    let rest : length (without id es) ≤ length es = few_without id es in
    elim (has_id id e) as (λ b. length (cond (not b) (e ∷ without id es) (without id es)) ≤ length (e ∷ es)) [
      | true ↦ omega arith
      | false ↦ omega arith
    ]

any_without : (other id : List ℕ) (es : List Entry) → list_any (has_id other) es ≡ false → list_any (has_id other) (without id es) ≡ false
any_without other id [] none = refl
any_without other id (e ∷ es) none =
    let parts = or_none (has_id other e) (list_any (has_id other) es) none in
    let rest : list_any (has_id other) (without id es) ≡ false = any_without other id es parts.1 in
    elim (has_id id e) as (λ b. list_any (has_id other) (cond (not b) (e ∷ without id es) (without id es)) ≡ false) [
      | true ↦ rest
      | false ↦ ap (λ b. b || list_any (has_id other) (without id es)) parts.0 ∙ rest
    ]

distinct_without : (id : List ℕ) (es : List Entry) → IdsAreDistinct es → IdsAreDistinct (without id es)
distinct_without id [] h = tt
distinct_without id (e ∷ es) h =
    elim (has_id id e) as (λ b. IdsAreDistinct (cond (not b) (e ∷ without id es) (without id es))) [
      | true ↦ distinct_without id es h.1
      | false ↦ (any_without e.id id es h.0, distinct_without id es h.1)
    ]

stored_without : (id : List ℕ) (es : List Entry) → AllByRecursion IsStored es → AllByRecursion IsStored (without id es)
stored_without id [] h = tt
stored_without id (e ∷ es) h =
    elim (has_id id e) as (λ b. AllByRecursion IsStored (cond (not b) (e ∷ without id es) (without id es))) [
      | true ↦ stored_without id es h.1
      | false ↦ (h.0, stored_without id es h.1)
    ]

pub sound_deleted : (id : List ℕ) (c : Container) → IsSound c → IsSound (deleted id c)
sound_deleted id c h = record {
  numbers = numbers_without id c.entries 0 c.next_number h.numbers;
  last = h.last;
  few = let less : length (without id c.entries) ≤ length c.entries = few_without id c.entries in
      let few : length c.entries ≤ most_documents = h.few in omega arith;
  distinct = distinct_without id c.entries h.distinct;
  stored = stored_without id c.entries h.stored;
}

-- ---- the policy changes, and documents are moved to it

pub sound_with_policy : (policy : Policy) (c : Container) → IsSound c → IsSound (with_policy policy c)
sound_with_policy policy c h = record {
  numbers = h.numbers;
  last = h.last;
  few = h.few;
  distinct = h.distinct;
  stored = h.stored;
}

module _ (policy : Policy) where
  numbers_moved : (n : ℕ) (es : List Entry) (before next : ℕ) → NumbersRise before es next → NumbersRise before (moved_first n policy es) next
  numbers_moved zero es before next h = h
  numbers_moved (suc n) [] before next h = h
  numbers_moved (suc n) (e ∷ es) before next h =
      elim (is_behind policy e) as (λ b. NumbersRise before (cond b (moved policy e ∷ moved_first n policy es) (e ∷ moved_first (suc n) policy es)) next) [
        | true ↦ (h.0, numbers_moved n es e.number next h.1)
        | false ↦ (h.0, numbers_moved (suc n) es e.number next h.1)
      ]

  length_moved : (n : ℕ) (es : List Entry) → length (moved_first n policy es) ≡ length es
  length_moved zero es = refl
  length_moved (suc n) [] = refl
  length_moved (suc n) (e ∷ es) =
      elim (is_behind policy e) as
      (λ b. length (cond b (moved policy e ∷ moved_first n policy es) (e ∷ moved_first (suc n) policy es)) ≡ length (e ∷ es)) [
        | true ↦ ap suc (length_moved n es)
        | false ↦ ap suc (length_moved (suc n) es)
      ]

  any_moved : (other : List ℕ) (n : ℕ) (es : List Entry) → list_any (has_id other) (moved_first n policy es) ≡ list_any (has_id other) es
  any_moved other zero es = refl
  any_moved other (suc n) [] = refl
  any_moved other (suc n) (e ∷ es) =
      elim (is_behind policy e) as
      (λ b. list_any (has_id other) (cond b (moved policy e ∷ moved_first n policy es) (e ∷ moved_first (suc n) policy es))
      ≡ list_any (has_id other) (e ∷ es)) [
        | true ↦ ap (λ b. has_id other e || b) (any_moved other n es)
        | false ↦ ap (λ b. has_id other e || b) (any_moved other (suc n) es)
      ]

  distinct_moved : (n : ℕ) (es : List Entry) → IdsAreDistinct es → IdsAreDistinct (moved_first n policy es)
  distinct_moved zero es h = h
  distinct_moved (suc n) [] h = h
  distinct_moved (suc n) (e ∷ es) h =
      elim (is_behind policy e) as (λ b. IdsAreDistinct (cond b (moved policy e ∷ moved_first n policy es) (e ∷ moved_first (suc n) policy es))) [
        | true ↦ (any_moved e.id n es ∙ h.0, distinct_moved n es h.1)
        | false ↦ (any_moved e.id (suc n) es ∙ h.0, distinct_moved (suc n) es h.1)
      ]

  stored_moved : (n : ℕ) (es : List Entry) → AllByRecursion IsStored es → AllByRecursion IsStored (moved_first n policy es)
  stored_moved zero es h = h
  stored_moved (suc n) [] h = h
  stored_moved (suc n) (e ∷ es) h =
      elim (is_behind policy e) as (λ b. AllByRecursion IsStored (cond b (moved policy e ∷ moved_first n policy es) (e ∷ moved_first (suc n) policy es))) [
        | true ↦ (record { own_id = h.0.own_id; storable = h.0.storable }, stored_moved n es h.1)
        | false ↦ (h.0, stored_moved (suc n) es h.1)
      ]

pub sound_stepped : (n : ℕ) (c : Container) → IsSound c → IsSound (stepped n c)
sound_stepped n c h = record {
  numbers = numbers_moved c.policy n c.entries 0 c.next_number h.numbers;
  last = h.last;
  few = subst (λ k. k ≤ most_documents) (sym (length_moved c.policy n c.entries)) h.few;
  distinct = distinct_moved c.policy n c.entries h.distinct;
  stored = stored_moved c.policy n c.entries h.stored;
}
