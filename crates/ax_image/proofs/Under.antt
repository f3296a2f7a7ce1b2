-- Documents under the policies of entries: what a document put in place makes of them.
use Rattle.std.proofs.Common.{◌≡◌, ℕ, ◌<◌, Bool, true, false, cond, List, [], ◌∷◌, ◌++◌, map, find, Some, refl, sym, ap, subst, ◌∙◌, arith, nat_eq}
use Rattle.std.specs.Prelude.{if◌then◌else◌, not}
use Rattle.std.specs.List.{list_any, filter}
use Rattle.std.specs.Ordering.{nat_cmp}
use Rattle.std.specs.FinMap.{put}
use Rattle.ax_tree.specs.declared.tree.Tree.{Tree}
use Rattle.ax_policy.specs.declared.policy.Policy.{Policy}
use Rattle.ax_container.specs.Container.{Entry, has_id, NumbersRise, IdsAreDistinct}
use Rattle.ax_container.specs.Writes.{with_tree}
use Rattle.ax_container.proofs.ByNumber.{other_than}
use Rattle.ax_container.proofs.Ids.{same_from_eq}
use Rattle.ax_container.proofs.Upserts.{with_tree-own, with_tree-other}
use Rattle.ax_area.specs.Contents.{Stored}
use Rattle.ax_image_grammar.specs.Payloads.{IsTextOf}
use Rattle.ax_image.specs.StandsFor.{AreUnder, ShowEntries}
use Rattle.ax_image.proofs.Shown.{after_greater, at_equal, documents_without, found_above, rises_to, same_some, same_test, unchanged}

module _ (texts : ℕ → List ℕ) where
  pub under_behind : (pages : List (ℕ × Stored)) (entries : List Entry) (before next : ℕ) (document : Stored) (new : Entry)
      → NumbersRise before entries next → ShowEntries pages entries → AreUnder texts pages entries
      → IsTextOf (texts document.policy) new.indexed_by
      → AreUnder texts (put nat_cmp next document pages) (entries ++ new ∷ [])
  under_behind [] [] before next document new rise shown under is = (is, tt)
  under_behind [] (e ∷ es) before next document new rise shown under is = absurd shown
  under_behind (p ∷ ps) [] before next document new rise shown under is = absurd shown
  under_behind (p ∷ ps) (e ∷ es) before next document new rise shown under is =
      let below : p.0 < next = omega (arith, rises_to e.number next es rise.1, shown.0.number_is) in
      subst (λ pages. AreUnder texts pages (e ∷ es ++ new ∷ [])) (sym (after_greater next document p ps below))
      (under.0, under_behind ps es e.number next document new rise.1 shown.1 under.1 is)

  under_first : (p : ℕ × Stored) (ps : List (ℕ × Stored)) (e : Entry) (es : List Entry) (id : List ℕ) (tree : Tree)
      (policy : Policy) (document : Stored) (is : IsTextOf (texts document.policy) policy) (found : Entry)
      → IdsAreDistinct (e ∷ es) → ShowEntries (p ∷ ps) (e ∷ es) → AreUnder texts (p ∷ ps) (e ∷ es)
      → has_id id e ≡ true → e ≡ found
      → AreUnder texts (put nat_cmp found.number document (p ∷ ps)) (map (with_tree id tree policy) (e ∷ es))
  under_first p ps e es id tree policy document is found distinct shown under own same =
      let number : found.number ≡ p.0 = ap (λ (x : Entry). x.number) (sym same) ∙ sym shown.0.number_is in
      let others : map (with_tree id tree policy) es ≡ es =
      unchanged id tree policy es (ap (λ x. list_any (has_id x) es) (sym (same_from_eq e.id id own)) ∙ distinct.0) in
      subst (λ pages. AreUnder texts pages (map (with_tree id tree policy) (e ∷ es))) (sym (at_equal found.number document p ps number)) (
        subst (λ (x : Entry). IsTextOf (texts document.policy) x.indexed_by) (sym (with_tree-own id tree policy e own)) is,
        subst (AreUnder texts ps) (sym others) under.1,
      )

  under_later : (p : ℕ × Stored) (ps : List (ℕ × Stored)) (e : Entry) (es : List Entry) (next : ℕ) (id : List ℕ) (tree : Tree)
      (policy : Policy) (document : Stored) (found : Entry)
      → NumbersRise e.number es next → ShowEntries (p ∷ ps) (e ∷ es) → AreUnder texts (p ∷ ps) (e ∷ es)
      → has_id id e ≡ false → find (has_id id) es ≡ Some found
      → AreUnder texts (put nat_cmp found.number document ps) (map (with_tree id tree policy) es)
      → AreUnder texts (put nat_cmp found.number document (p ∷ ps)) (map (with_tree id tree policy) (e ∷ es))
  under_later p ps e es next id tree policy document found rise shown under other same later =
      let below : p.0 < found.number = omega (arith, found_above id e.number next es found rise same, shown.0.number_is) in
      subst (λ pages. AreUnder texts pages (map (with_tree id tree policy) (e ∷ es))) (sym (after_greater found.number document p ps below))
      (subst (λ (x : Entry). IsTextOf (texts p.1.policy) x.indexed_by) (sym (with_tree-other id tree policy e other)) under.0, later)

  pub under_over : (pages : List (ℕ × Stored)) (entries : List Entry) (before next : ℕ) (id : List ℕ) (tree : Tree) (policy : Policy) (document : Stored)
      (is : IsTextOf (texts document.policy) policy) (found : Entry)
      → NumbersRise before entries next → IdsAreDistinct entries → ShowEntries pages entries → AreUnder texts pages entries
      → find (has_id id) entries ≡ Some found
      → AreUnder texts (put nat_cmp found.number document pages) (map (with_tree id tree policy) entries)
  under_over [] [] before next id tree policy document is found rise distinct shown under same = absurd cc
  under_over [] (e ∷ es) before next id tree policy document is found rise distinct shown under same = absurd shown
  under_over (p ∷ ps) [] before next id tree policy document is found rise distinct shown under same = absurd shown
  under_over (p ∷ ps) (e ∷ es) before next id tree policy document is found rise distinct shown under same =
      elim (has_id id e) as (λ b. has_id id e ≡ b → (if b then Some e else find (has_id id) es) ≡ Some found
      → AreUnder texts (put nat_cmp found.number document (p ∷ ps)) (map (with_tree id tree policy) (e ∷ es))) [
        | true ↦ λ own at. under_first p ps e es id tree policy document is found distinct shown under own (same_some e found at)
        | false ↦ λ other at. under_later p ps e es next id tree policy document found rise.1 shown under other at
            (under_over ps es e.number next id tree policy document is found rise.1 distinct.1 shown.1 under.1 at)
      ] refl same

  -- one that is gone leaves the others
  pub under_without : (number : ℕ) (pages : List (ℕ × Stored)) (entries : List Entry) → ShowEntries pages entries
      → AreUnder texts pages entries
      → AreUnder texts (documents_without number pages) (filter (other_than number) entries)
  under_without number [] [] shown under = tt
  under_without number [] (e ∷ es) shown under = absurd shown
  under_without number (p ∷ ps) [] shown under = absurd shown
  under_without number (p ∷ ps) (e ∷ es) shown under =
      let rest : AreUnder texts (documents_without number ps) (filter (other_than number) es) =
      under_without number ps es shown.1 under.1 in
      let P : Bool → Bool → Type 0 = λ a b. AreUnder texts (cond (not a) (p ∷ documents_without number ps) (documents_without number ps))
      (cond (not b) (e ∷ filter (other_than number) es) (filter (other_than number) es)) in
      subst (λ a. P a (nat_eq e.number number)) (sym (same_test number p e shown.0))
      (elim (nat_eq e.number number) as (λ b. P b b) [
        | true ↦ rest
        | false ↦ (under.0, rest)
      ])
