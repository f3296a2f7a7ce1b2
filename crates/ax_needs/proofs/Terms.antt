-- Terms in ranges, by the test and by what is so.
use Rattle.std.proofs.Common.{◌≡◌, ℕ, List, Bool, true, ⊎_elim, ◌⊎◌, inl, inr, refl, sym, ap, subst, ◌∙◌}
use Rattle.std.specs.Prelude.{◌↔◌}
use Rattle.std.specs.List.{Contains, list_any}
use Rattle.std.proofs.lemmas.Bool.{and_from, and_parts, or_cases, or_left, or_right}
use Rattle.ax_tree.specs.declared.tree.Tree.{Tree}
use Rattle.ax_mean.specs.declared.query.Order.{Order}
use Rattle.ax_term.specs.declared.range.TermRange.{TermRange}
use Rattle.ax_policy.specs.declared.policy.Policy.{Policy}
use Rattle.ax_policy.specs.Deciding.{is_covered}
use Rattle.ax_policy.specs.Ordering.{offered}
use Rattle.ax_terms.specs.Leaves.{Leaf, leaves}
use Rattle.ax_terms.specs.TermsOf.{HasComposite, HasPlain, HasTerm, composite_term_of, leaf_term}
use Rattle.ax_atoms.specs.Spans.{is_in_some}
use Rattle.ax_container.specs.Container.{Entry}
use Rattle.ax_needs.specs.Needs.{has_term_in, is_candidate, is_composite_in, is_leaf_in}
use Rattle.ax_needs.proofs.Deciding.{covered, covers_is}
use Rattle.ax_needs.proofs.Lists.{all_pass, each_passes, one_passes, some_pass}

-- the document has a term in one of the ranges
abbrev pub HasTermIn : Policy → Tree → List TermRange → Type 0
HasTermIn policy given ranges = (bytes : List ℕ) × HasTerm policy given bytes × (is_in_some ranges bytes ≡ true)

module _ (policy : Policy) (given : Tree) (ranges : List TermRange) where
  abbrev of_leaves : Bool
  of_leaves = list_any (is_leaf_in policy ranges) (leaves given)

  abbrev of_composites : Bool
  of_composites = list_any (is_composite_in given ranges) (offered policy)

  by_leaf : of_leaves ≡ true → HasTermIn policy given ranges
  by_leaf any =
      let found = one_passes (is_leaf_in policy ranges) (leaves given) any in
      let leaf : Leaf = found.0 in
      let parts = and_parts (is_covered policy leaf.path) (is_in_some ranges (leaf_term leaf)) found.2 in
      (leaf_term leaf, inl (leaf, found.1, covered policy leaf.path parts.0, refl), parts.1)

  by_composite : of_composites ≡ true → HasTermIn policy given ranges
  by_composite any =
      let found = one_passes (is_composite_in given ranges) (offered policy) any in
      (composite_term_of given found.0, inr (found.0, found.1, refl), found.2)

  pub term_told : has_term_in policy given ranges ≡ true → HasTermIn policy given ranges
  term_told told =
      ⊎_elim {C = HasTermIn policy given ranges} by_leaf by_composite (or_cases of_leaves of_composites told)

  plain_is : (bytes : List ℕ) → HasPlain policy given bytes → is_in_some ranges bytes ≡ true → of_leaves ≡ true
  plain_is bytes has within =
      some_pass (is_leaf_in policy ranges) (leaves given) has.0 has.1
      (and_from (is_covered policy has.0.path) (is_in_some ranges (leaf_term has.0)) (covers_is policy has.0.path has.2)
      (ap (is_in_some ranges) (sym has.3) ∙ within))

  composite_is : (bytes : List ℕ) → HasComposite policy given bytes → is_in_some ranges bytes ≡ true
      → of_composites ≡ true
  composite_is bytes has within =
      some_pass (is_composite_in given ranges) (offered policy) has.0 has.1 (ap (is_in_some ranges) (sym has.2) ∙ within)

  pub has_told : HasTermIn policy given ranges → has_term_in policy given ranges ≡ true
  has_told has =
      ⊎_elim {C = has_term_in policy given ranges ≡ true}
      (λ (plain : HasPlain policy given has.0). or_left of_leaves of_composites (plain_is has.0 plain has.2))
      (λ (composite : HasComposite policy given has.0).
      or_right of_leaves of_composites (composite_is has.0 composite has.2))
      has.1

module _ (unions : List (List TermRange)) (entry : Entry) where
  pub candidate_told : is_candidate unions entry ≡ true → (ranges : List TermRange) → Contains unions ranges
      → HasTermIn entry.indexed_by entry.tree ranges
  candidate_told told ranges there =
      term_told entry.indexed_by entry.tree ranges
      (each_passes (has_term_in entry.indexed_by entry.tree) unions ranges told there)

  pub is_candidate_where : ((ranges : List TermRange) → Contains unions ranges
      → HasTermIn entry.indexed_by entry.tree ranges) → is_candidate unions entry ≡ true
  is_candidate_where has =
      all_pass (has_term_in entry.indexed_by entry.tree) unions
      (λ ranges there. has_told entry.indexed_by entry.tree ranges (has ranges there))
