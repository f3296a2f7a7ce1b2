-- From what each part adds to the terms of a document.
use Rattle.std.proofs.Common.{◌≡◌, ℕ, List, [], ◌∷◌, ◌++◌, map, sym, subst, inl, inr, ⊎_elim}
use Rattle.std.proofs.lemmas.List.Elements.{Contains-append_left, Contains-append_right, Contains-append_cases}
use Rattle.std.specs.List.{Contains}
use Rattle.std.specs.Prelude.{◌↔◌}
use Rattle.ax_tree.specs.declared.tree.Tree.{Tree}
use Rattle.ax_policy.specs.declared.policy.Policy.{Policy}
use Rattle.ax_policy.specs.declared.walk.RuleWalk.{RuleWalk}
use Rattle.ax_policy.specs.Ordering.{offered}
use Rattle.ax_policy.specs.Walking.{IsAt}
use Rattle.ax_terms.specs.Adding.{AddsAt}
use Rattle.ax_terms.specs.Leaves.{leaves}
use Rattle.ax_terms.specs.TermsOf.{HasPlain, HasTerm, composite_term_of}
use Rattle.ax_terms.proofs.Sequences.{contains_map, from_map, none_in_nil}

-- a walk from the top that begins with no terms
pub plain_from_top : (walk : RuleWalk) (policy : Policy) (given : Tree) (front : List ℕ) (terms : List (List ℕ))
    → IsAt walk policy [] → front ≡ 2 ∷ [] → AddsAt walk front (leaves given) [] terms
    → (bytes : List ℕ) → Contains terms bytes ↔ HasPlain policy given bytes
plain_from_top walk policy given front terms at f adds bytes =
    let p = adds.so policy [] at f bytes in (
      (λ h. ⊎_elim (λ k. absurd (none_in_nil bytes k)) (λ k. k) (p.0 h)),
      (λ h. p.1 (inr h)),
    )

-- the terms of composites behind them
pub with_composites : (policy : Policy) (given : Tree) (plain all : List (List ℕ))
    → ((bytes : List ℕ) → Contains plain bytes ↔ HasPlain policy given bytes)
    → all ≡ plain ++ map (composite_term_of given) (offered policy)
    → (bytes : List ℕ) → Contains all bytes ↔ HasTerm policy given bytes
with_composites policy given plain all is e bytes = (
  (λ h.
      ⊎_elim (λ k. inl ((is bytes).0 k))
      (λ k. let x = from_map (composite_term_of given) (offered policy) bytes k in inr (x.0, x.1, sym x.2))
      (Contains-append_cases plain _ bytes (subst (λ ts. Contains ts bytes) e h))),
  (λ h.
      subst (λ ts. Contains ts bytes) (sym e)
      (⊎_elim (λ k. Contains-append_left plain _ bytes ((is bytes).1 k))
      (λ k. Contains-append_right plain _ bytes
      (subst (Contains (map (composite_term_of given) (offered policy))) (sym k.2)
      (contains_map (composite_term_of given) (offered policy) k.0 k.1)))
      h)),
)

pub in_order_too : (policy : Policy) (given : Tree) (all sorted : List (List ℕ))
    → ((bytes : List ℕ) → Contains all bytes ↔ HasTerm policy given bytes)
    → ((bytes : List ℕ) → Contains sorted bytes ↔ Contains all bytes)
    → (bytes : List ℕ) → Contains sorted bytes ↔ HasTerm policy given bytes
in_order_too policy given all sorted is same bytes = (
  (λ h. (is bytes).0 ((same bytes).0 h)),
  (λ h. (same bytes).1 ((is bytes).1 h)),
)
