-- A step of several documents is one of one document, and behind it one of the others; and a step of one is a replacement of the
-- first document that is behind by its own tree.
use Rattle.std.proofs.Common.{◌≡◌, ◌≤◌, ℕ, zero, suc, List, [], ◌∷◌, map, find, Bool, true, false, cond, Some, refl, sym, ap, ◌∙◌, arith}
use Rattle.std.specs.List.{list_any}
use Rattle.std.specs.Prelude.{not, ◌||◌, if◌then◌else◌}
use Rattle.ax_policy.specs.declared.policy.Policy.{Policy}
use Rattle.ax_policy.specs.Normal.{normal_text}
use Rattle.ax_container.specs.Container.{Container, Entry, IdsAreDistinct, entry_of, has_id}
use Rattle.ax_container.specs.Reindexing.{is_behind, moved, moved_first, stepped}
use Rattle.ax_container.specs.Writes.{replaced, rewritten, with_tree}
use Rattle.ax_container.proofs.ByNumber.{same_some}
use Rattle.ax_container.proofs.Ids.{bytes_eq-self, same_from_eq}
use Rattle.ax_container.proofs.Soundness.{or_none}
use Rattle.ax_container.proofs.Upserts.{with_tree-other}

-- what was moved is behind no more
moved_is_not : (policy : Policy) (e : Entry) → is_behind policy (moved policy e) ≡ false
moved_is_not policy e = ap not (bytes_eq-self (normal_text policy))

module _ (policy : Policy) where
  abbrev first : ℕ → List Entry → List Entry
  first count es = moved_first count policy es

  -- one more that is not behind, in front
  passed : (count : ℕ) (e : Entry) (es : List Entry) → is_behind policy e ≡ false → first count (e ∷ es) ≡ e ∷ first count es
  passed zero e es not_behind = refl
  passed (suc count) e es not_behind =
      ap (λ b. cond b (moved policy e ∷ first count es) (e ∷ first (suc count) es)) not_behind

  taken : (count : ℕ) (e : Entry) (es : List Entry) → is_behind policy e ≡ true → first (suc count) (e ∷ es) ≡ moved policy e ∷ first count es
  taken count e es behind = ap (λ b. cond b (moved policy e ∷ first count es) (e ∷ first (suc count) es)) behind

  none_at_all : (count : ℕ) → first count [] ≡ []
  none_at_all zero = refl
  none_at_all (suc count) = refl

  -- one of one document, and then the others
  pub one_more : (count : ℕ) (es : List Entry) → first (suc count) es ≡ first count (first 1 es)
  one_more count [] = sym (none_at_all count)
  one_more count (e ∷ es) =
      elim (is_behind policy e) as (λ b. is_behind policy e ≡ b → first (suc count) (e ∷ es) ≡ first count (first 1 (e ∷ es))) [
        | true ↦ λ is.
            taken count e es is ∙ sym (passed count (moved policy e) es (moved_is_not policy e)) ∙ ap (first count) (sym (taken 0 e es is))
        | false ↦ λ is.
            passed (suc count) e es is ∙ ap (λ rest. e ∷ rest) (one_more count es) ∙ sym (passed count e (first 1 es) is)
            ∙ ap (first count) (sym (passed 1 e es is))
      ] refl

  -- where none is behind nothing is moved
  pub none_moved : (count : ℕ) (es : List Entry) → list_any (is_behind policy) es ≡ false → first count es ≡ es
  none_moved count [] none = none_at_all count
  none_moved count (e ∷ es) none =
      let parts = or_none (is_behind policy e) (list_any (is_behind policy) es) none in
      passed count e es parts.0 ∙ ap (λ rest. e ∷ rest) (none_moved count es parts.1)

  -- so of more than are behind, once all are moved
  pub all_moved : (some count : ℕ) (es : List Entry) → some ≤ count → list_any (is_behind policy) (first some es) ≡ false
      → first count es ≡ first some es
  all_moved zero count es less none = none_moved count es none
  all_moved (suc some) zero es less none = absurd (omega (arith, less))
  all_moved (suc some) (suc count) es less none =
      one_more count es
      ∙ all_moved some count (first 1 es) (omega (arith, less)) (ap (list_any (is_behind policy)) (sym (one_more some es)) ∙ none)
      ∙ sym (one_more some es)

  -- ---- the first one that is behind

  -- what is found is among the entries
  any_id : (es : List Entry) (e : Entry) → find (is_behind policy) es ≡ Some e → list_any (has_id e.id) es ≡ true
  any_id [] e is = absurd cc
  any_id (x ∷ es) e is =
      elim (is_behind policy x) as (λ b. cond b (Some x) (find (is_behind policy) es) ≡ Some e → (has_id e.id x || list_any (has_id e.id) es) ≡ true) [
        | true ↦ λ at.
            ap (λ (i : List ℕ). has_id i x || list_any (has_id i) es) (ap (λ (y : Entry). y.id) (sym (same_some x e at)))
            ∙ ap (λ b. b || list_any (has_id x.id) es) (bytes_eq-self x.id)
        | false ↦ λ at. either_one (has_id e.id x) (any_id es e at)
      ] is
    where
      either_one : (a : Bool) {b : Bool} → b ≡ true → (a || b) ≡ true
      either_one true is = refl
      either_one false is = is

  -- the entries behind one of another id, where it is given its own tree under the policy
  rest_kept : (e : Entry) (es : List Entry) → list_any (has_id e.id) es ≡ false → map (with_tree e.id e.tree policy) es ≡ es
  rest_kept e [] none = refl
  rest_kept e (x ∷ es) none =
      let parts = or_none (has_id e.id x) (list_any (has_id e.id) es) none in
      λ i. with_tree-other e.id e.tree policy x parts.0 i ∷ rest_kept e es parts.1 i

  own_tree : (e : Entry) → with_tree e.id e.tree policy e ≡ moved policy e
  own_tree e = ap (λ b. if b then rewritten e.tree policy e else e) (bytes_eq-self e.id)

  other_id : (x e : Entry) (es : List Entry) → list_any (has_id x.id) es ≡ false → list_any (has_id e.id) es ≡ true → has_id e.id x ≡ false
  other_id x e es none some =
      elim (has_id e.id x) as (λ b. has_id e.id x ≡ b → b ≡ false) [
        | true ↦ λ is.
            let same : x.id ≡ e.id = same_from_eq x.id e.id is in
            let found : list_any (has_id x.id) es ≡ true = ap (λ (i : List ℕ). list_any (has_id i) es) same ∙ some in
            absurd (cc)
        | false ↦ λ is. refl
      ] refl

  pub as_rewritten : (es : List Entry) (e : Entry) → IdsAreDistinct es → find (is_behind policy) es ≡ Some e
      → first 1 es ≡ map (with_tree e.id e.tree policy) es
  as_rewritten [] e distinct is = absurd cc
  as_rewritten (x ∷ es) e distinct is =
      elim (is_behind policy x) as
      (λ b. is_behind policy x ≡ b → cond b (Some x) (find (is_behind policy) es) ≡ Some e
      → first 1 (x ∷ es) ≡ map (with_tree e.id e.tree policy) (x ∷ es)) [
        | true ↦ λ behind at.
            let same : x ≡ e = same_some x e at in
            taken 0 x es behind ∙ sym (λ i. own_tree x i ∷ rest_kept x es distinct.0 i)
            ∙ ap (λ (y : Entry). map (with_tree y.id y.tree policy) (x ∷ es)) same
        | false ↦ λ behind at.
            let other : has_id e.id x ≡ false = other_id x e es distinct.0 (any_id es e at) in
            passed 1 x es behind ∙ (λ i. sym (with_tree-other e.id e.tree policy x other) i ∷ as_rewritten es e distinct.1 at i)
      ] refl is

  -- it is the entry of its id
  pub found_by_id : (es : List Entry) (e : Entry) → IdsAreDistinct es → find (is_behind policy) es ≡ Some e → find (has_id e.id) es ≡ Some e
  found_by_id [] e distinct is = absurd cc
  found_by_id (x ∷ es) e distinct is =
      elim (is_behind policy x) as
      (λ b. cond b (Some x) (find (is_behind policy) es) ≡ Some e → find (has_id e.id) (x ∷ es) ≡ Some e) [
        | true ↦ λ at.
            let same : x ≡ e = same_some x e at in
            ap (λ (y : Entry). find (has_id y.id) (x ∷ es)) (sym same)
            ∙ ap (λ b. cond b (Some x) (find (has_id x.id) es)) (bytes_eq-self x.id) ∙ at
        | false ↦ λ at.
            let other : has_id e.id x ≡ false = other_id x e es distinct.0 (any_id es e at) in
            ap (λ b. cond b (Some x) (find (has_id e.id) es)) other ∙ found_by_id es e distinct.1 at
      ] is

-- ---- steps of a container

pub step_more : (count : ℕ) (c : Container) → stepped (suc count) c ≡ stepped count (stepped 1 c)
step_more count c = ap (λ es. record c { entries = es }) (one_more c.policy count c.entries)

pub step_all : (some count : ℕ) (c : Container) → some ≤ count → list_any (is_behind c.policy) (stepped some c).entries ≡ false
    → stepped count c ≡ stepped some c
step_all some count c less none = ap (λ es. record c { entries = es }) (all_moved c.policy some count c.entries less none)

pub step_one : (c : Container) (e : Entry) → IdsAreDistinct c.entries → find (is_behind c.policy) c.entries ≡ Some e
    → stepped 1 c ≡ replaced e.id e.tree c
step_one c e distinct is = ap (λ es. record c { entries = es }) (as_rewritten c.policy c.entries e distinct is)

pub step_id : (c : Container) (e : Entry) → IdsAreDistinct c.entries → find (is_behind c.policy) c.entries ≡ Some e
    → entry_of e.id c ≡ Some e
step_id c e distinct is = found_by_id c.policy c.entries e distinct is
