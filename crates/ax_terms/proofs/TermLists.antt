-- The terms of a document are the elements of a list, so whether something is one of them is decided.
use Rattle.std.proofs.Common.{◌≡◌, ℕ, List, [], ◌∷◌, ◌++◌, Bool, true, false, map, refl, sym, ap, ◌∙◌, subst, inl, inr, ⊎_elim}
use Rattle.std.proofs.lemmas.Bool.{false≢true}
use Rattle.std.proofs.lemmas.List.Elements.{Contains-append_cases}
use Rattle.std.specs.List.{Contains}
use Rattle.std.specs.Prelude.{◌↔◌, ◌⊎◌, if◌then◌else◌}
use Rattle.ax_tree.specs.declared.tree.Tree.{Tree}
use Rattle.ax_mean.specs.declared.query.Order.{Order}
use Rattle.ax_mean.specs.declared.query.Step.{Step}
use Rattle.ax_policy.specs.declared.policy.Policy.{Policy}
use Rattle.ax_policy.specs.Covering.{Covers}
use Rattle.ax_policy.specs.Deciding.{is_covered}
use Rattle.ax_policy.specs.Ordering.{offered}
use Rattle.ax_policy.proofs.Orders.{orderable, orderable_is}
use Rattle.ax_terms.specs.Adding.{HasCovered}
use Rattle.ax_terms.specs.Leaves.{Leaf, leaves}
use Rattle.ax_terms.specs.TermsOf.{HasTerm, composite_term_of, leaf_term}
use Rattle.ax_terms.proofs.Sequences.{contains_first, contains_later, none_in_nil, only_one}
use Rattle.ax_terms.proofs.TermSets.{with_composites}

abbrev order_by : List Step → Order
order_by path = record { path = path; down = false }

covered : (policy : Policy) (path : List Step) → is_covered policy path ≡ true → Covers policy path
covered policy path is = orderable policy (order_by path ∷ []) is

covers_is : (policy : Policy) (path : List Step) → Covers policy path → is_covered policy path ≡ true
covers_is policy path covers = orderable_is policy (order_by path ∷ []) covers

-- the terms of the leaves that are covered
abbrev covered_terms : Policy → List Leaf → List (List ℕ)
covered_terms policy [] = []
covered_terms policy (leaf ∷ leaves) =
    if is_covered policy leaf.path then leaf_term leaf ∷ covered_terms policy leaves else covered_terms policy leaves

first_or_later : {A : Type 0} (x : A) (xs : List A) (y : A) → Contains (x ∷ xs) y → (x ≡ y) ⊎ Contains xs y
first_or_later x xs y h = ⊎_elim (λ k. inl (only_one x y k)) (λ k. inr k) (Contains-append_cases (x ∷ []) xs y h)

later_leaf : (policy : Policy) (leaf : Leaf) (given : List Leaf) (bytes : List ℕ) → HasCovered policy [] given bytes
    → HasCovered policy [] (leaf ∷ given) bytes
later_leaf policy leaf given bytes h = (h.0, contains_later leaf given h.0 h.1, h.2, h.3)

are_covered : (policy : Policy) (given : List Leaf) (bytes : List ℕ)
    → Contains (covered_terms policy given) bytes ↔ HasCovered policy [] given bytes
are_covered policy [] bytes = ((λ h. absurd (none_in_nil bytes h)), (λ h. absurd (none_in_nil h.0 h.1)))
are_covered policy (leaf ∷ given) bytes = by_test (is_covered policy leaf.path) refl (are_covered policy given bytes)
  where
    by_test : (b : Bool) → is_covered policy leaf.path ≡ b
        → Contains (covered_terms policy given) bytes ↔ HasCovered policy [] given bytes
        → Contains (if b then leaf_term leaf ∷ covered_terms policy given else covered_terms policy given) bytes
        ↔ HasCovered policy [] (leaf ∷ given) bytes
    by_test true is rest = (
      (λ h.
          ⊎_elim (λ (e : leaf_term leaf ≡ bytes). (leaf, contains_first leaf given, covered policy leaf.path is, sym e))
          (λ (k : Contains (covered_terms policy given) bytes). later_leaf policy leaf given bytes (rest.0 k))
          (first_or_later (leaf_term leaf) (covered_terms policy given) bytes h)),
      (λ h.
          ⊎_elim
          (λ (e : leaf ≡ h.0).
          subst (Contains (leaf_term leaf ∷ covered_terms policy given)) (ap leaf_term e ∙ sym h.3)
          (contains_first (leaf_term leaf) (covered_terms policy given)))
          (λ (k : Contains given h.0).
          contains_later (leaf_term leaf) (covered_terms policy given) bytes (rest.1 (h.0, k, h.2, h.3)))
          (first_or_later leaf given h.0 h.1)),
    )
    by_test false is rest = (
      (λ h. later_leaf policy leaf given bytes (rest.0 h)),
      (λ h.
          ⊎_elim
          (λ (e : leaf ≡ h.0).
          absurd (false≢true (sym is ∙ ap (λ (l : Leaf). is_covered policy l.path) e ∙ covers_is policy h.0.path h.2)))
          (λ (k : Contains given h.0). rest.1 (h.0, k, h.2, h.3))
          (first_or_later leaf given h.0 h.1)),
    )

abbrev pub term_list : Policy → Tree → List (List ℕ)
term_list policy given =
    covered_terms policy (leaves given) ++ map (composite_term_of given) (offered policy)

pub are_terms : (policy : Policy) (given : Tree) (bytes : List ℕ)
    → Contains (term_list policy given) bytes ↔ HasTerm policy given bytes
are_terms policy given bytes =
    with_composites policy given (covered_terms policy (leaves given)) (term_list policy given)
    (are_covered policy (leaves given)) refl bytes
