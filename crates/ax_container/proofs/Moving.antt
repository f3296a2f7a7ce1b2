-- A step of the transformation: how many documents are left behind it, and what of a document stays. And
-- writes of an id that is not held.
use Rattle.std.proofs.Common.{◌≡◌, ℕ, zero, suc, ◌+◌, ◌-◌, List, [], ◌∷◌, map, Bool, true, false, cond, refl, ap, arith}
use Rattle.std.proofs.lemmas.List.Sums.{sum_by-cons}
use Rattle.std.specs.List.{list_any}
use Rattle.std.specs.Prelude.{not, count_by}
use Rattle.ax_tree.specs.declared.tree.Tree.{Tree}
use Rattle.ax_policy.specs.declared.policy.Policy.{Policy}
use Rattle.ax_policy.specs.Normal.{normal_text}
use Rattle.ax_container.specs.Container.{Entry, Container, has_id, contains}
use Rattle.ax_container.specs.Writes.{with_tree, replaced, deleted}
use Rattle.ax_container.specs.Reindexing.{but_policy, is_behind, moved, moved_first, stepped, left}
use Rattle.ax_container.proofs.Ids.{bytes_eq-self}
use Rattle.ax_container.proofs.Soundness.{or_none, without}
use Rattle.ax_container.proofs.Upserts.{with_tree-other}

abbrev weight : Bool → ℕ
weight b = cond b 1 0

module _ (policy : Policy) where
  abbrev behind : List Entry → ℕ
  behind es = count_by (is_behind policy) es

  counted : (e : Entry) (es : List Entry) → behind (e ∷ es) ≡ weight (is_behind policy e) + behind es
  counted e es = sum_by-cons (λ y. weight (is_behind policy y)) e es

  left_moved : (count : ℕ) (es : List Entry) → behind (moved_first count policy es) ≡ behind es - count
  left_moved zero es = omega arith
  left_moved (suc count) [] = omega arith
  left_moved (suc count) (e ∷ es) =
      let old : behind (e ∷ es) ≡ weight (is_behind policy e) + behind es = counted e es in
      elim (is_behind policy e) as
      (λ b. is_behind policy e ≡ b
      → behind (cond b (moved policy e ∷ moved_first count policy es) (e ∷ moved_first (suc count) policy es))
      ≡ behind (e ∷ es) - suc count) [
        | true ↦ λ is.
            let rest : behind (moved_first count policy es) ≡ behind es - count = left_moved count es in
            let new : behind (moved policy e ∷ moved_first count policy es)
            ≡ weight (is_behind policy (moved policy e)) + behind (moved_first count policy es) =
            counted (moved policy e) (moved_first count policy es) in
            let none : weight (is_behind policy (moved policy e)) ≡ 0 =
            ap (λ b. weight (not b)) (bytes_eq-self (normal_text policy)) in
            let one : weight (is_behind policy e) ≡ 1 = ap weight is in
            omega (arith, rest, new, none, old, one)
        | false ↦ λ is.
            let rest : behind (moved_first (suc count) policy es) ≡ behind es - suc count = left_moved (suc count) es in
            let new : behind (e ∷ moved_first (suc count) policy es)
            ≡ weight (is_behind policy e) + behind (moved_first (suc count) policy es) =
            counted e (moved_first (suc count) policy es) in
            let none : weight (is_behind policy e) ≡ 0 = ap weight is in
            omega (arith, rest, new, none, old)
      ] refl

  bare_moved : (count : ℕ) (es : List Entry) → map but_policy (moved_first count policy es) ≡ map but_policy es
  bare_moved zero es = refl
  bare_moved (suc count) [] = refl
  bare_moved (suc count) (e ∷ es) =
      elim (is_behind policy e) as
      (λ b. map but_policy (cond b (moved policy e ∷ moved_first count policy es) (e ∷ moved_first (suc count) policy es))
      ≡ map but_policy (e ∷ es)) [
        | true ↦ λ i. but_policy e ∷ bare_moved count es i
        | false ↦ λ i. but_policy e ∷ bare_moved (suc count) es i
      ]

pub left_after_step : (c : Container) (count : ℕ) → left (stepped count c) ≡ left c - count
left_after_step c count = left_moved c.policy count c.entries

pub bare_after_step : (c : Container) (count : ℕ) → map but_policy (stepped count c).entries ≡ map but_policy c.entries
bare_after_step c count = bare_moved c.policy count c.entries

-- ---- an id that is not held

none_replaced : (id : List ℕ) (tree : Tree) (policy : Policy) (es : List Entry) → list_any (has_id id) es ≡ false
    → map (with_tree id tree policy) es ≡ es
none_replaced id tree policy [] none = refl
none_replaced id tree policy (e ∷ es) none =
    let parts = or_none (has_id id e) (list_any (has_id id) es) none in
    λ i. with_tree-other id tree policy e parts.0 i ∷ none_replaced id tree policy es parts.1 i

none_deleted : (id : List ℕ) (es : List Entry) → list_any (has_id id) es ≡ false → without id es ≡ es
none_deleted id [] none = refl
none_deleted id (e ∷ es) none =
    let parts = or_none (has_id id e) (list_any (has_id id) es) none in
    λ i. cond (not (parts.0 i)) (e ∷ none_deleted id es parts.1 i) (none_deleted id es parts.1 i)

pub absent_replaced : (c : Container) (tree : Tree) (id : List ℕ) → contains id c ≡ false → replaced id tree c ≡ c
absent_replaced c tree id none = λ i. record {
  entries = none_replaced id tree c.policy c.entries none i;
  next_number = c.next_number;
  policy = c.policy;
}

pub absent_deleted : (c : Container) (id : List ℕ) → contains id c ≡ false → deleted id c ≡ c
absent_deleted c id none = λ i. record {
  entries = none_deleted id c.entries none i;
  next_number = c.next_number;
  policy = c.policy;
}
