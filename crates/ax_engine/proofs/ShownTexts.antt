-- The text of a document's page is that of the tree which stands under its number.
use Rattle.std.proofs.Common.{◌≡◌, ◌==◌, ℕ, Bool, true, false, List, [], ◌∷◌, Option, Some, None, find, inl, inr, refl, sym, ap, ◌∙◌, codes, rules}
use Rattle.std.specs.Prelude.{◌≢◌, if◌then◌else◌}
use Rattle.std.specs.FinMap as finite
use Rattle.std.specs.Ordering.{nat_cmp}
use Rattle.std.proofs.lemmas.Bool.{cases_eq, eq-eqb, ne_eqb}
use Rattle.ax_tree.specs.declared.tree.Tree as trees
use Rattle.ax_tree.specs.declared.tree.Tree.{Tree}
use Rattle.ax_tree.specs.CanonicalText.{canonical_text}
use Rattle.ax_container.specs.Container.{Entry, Container}
use Rattle.ax_excerpt.specs.ShownDocuments.{tree_at, tree_numbered}
use Rattle.ax_area.specs.Contents.{Contents, Stored}
use Rattle.ax_image.specs.Documents.{ContentsHold}
use Rattle.ax_image.specs.StandsFor.{ShowEntries}
use Rattle.ax_store.specs.ReadAhead.{IsAhead}
use Rattle.ax_engine.proofs.InOrder.{found_here, found_later, pairs}

numbered_here : (number : ℕ) (e : ℕ × Tree) (es : List (ℕ × Tree)) → e.0 ≡ number
    → tree_numbered number (e ∷ es) ≡ e.1
numbered_here number e es same =
    ap (λ b. tree_at (if b then Some e else find (λ (f : ℕ × Tree). f.0 == number) es))
    (eq-eqb e.0 number same)

numbered_later : (number : ℕ) (e : ℕ × Tree) (es : List (ℕ × Tree)) → e.0 ≢ number
    → tree_numbered number (e ∷ es) ≡ tree_numbered number es
numbered_later number e es apart =
    ap (λ b. tree_at (if b then Some e else find (λ (f : ℕ × Tree). f.0 == number) es))
    (ne_eqb e.0 number apart)

pub null_text : codes "null" ≡ canonical_text trees.Null
null_text = search (rules, trees.the_lemmas)

no_some : (a : Stored) → None ≡ Some a → ⊥
no_some a e = cc

some_is : (a b : Stored) → Some a ≡ Some b → a ≡ b
some_is a b e = cc

in_pages : (number : ℕ) (pages : List (ℕ × Stored)) (entries : List Entry) → ShowEntries pages entries
    → (document : Stored) → finite.find nat_cmp number pages ≡ Some document
    → document.text ≡ canonical_text (tree_numbered number (pairs entries))
in_pages number [] [] shown document found = absurd cc
in_pages number [] (e ∷ es) shown document found = absurd shown
in_pages number (p ∷ ps) [] shown document found = absurd shown
in_pages number (p ∷ ps) (e ∷ es) shown document found =
    elim (cases_eq number p.0) as (λ _. document.text ≡ canonical_text (tree_numbered number (pairs (e ∷ es)))) [
      | inl same ↦
          let here : p.1 ≡ document = some_is p.1 document
          (sym (found_here number p ps same) ∙ found) in
          ap (λ (d : Stored). d.text) (sym here) ∙ shown.0.text_is
          ∙ ap canonical_text (sym (numbered_here number (e.number, e.tree) (pairs es)
          (sym (same ∙ shown.0.number_is))))
      | inr apart ↦
          let other : e.number ≢ number = λ is. apart (sym (shown.0.number_is ∙ is)) in
          in_pages number ps es shown.1 document (sym (found_later number p ps apart) ∙ found)
          ∙ ap canonical_text (sym (numbered_later number (e.number, e.tree) (pairs es) other))
    ]

none_in_pages : (number : ℕ) (pages : List (ℕ × Stored)) (entries : List Entry) → ShowEntries pages entries
    → finite.find nat_cmp number pages ≡ None → tree_numbered number (pairs entries) ≡ trees.Null
none_in_pages number [] [] shown none = refl
none_in_pages number [] (e ∷ es) shown none = absurd shown
none_in_pages number (p ∷ ps) [] shown none = absurd shown
none_in_pages number (p ∷ ps) (e ∷ es) shown none =
    elim (cases_eq number p.0) as (λ _. tree_numbered number (pairs (e ∷ es)) ≡ trees.Null) [
      | inl same ↦ absurd (no_some p.1 (sym none ∙ found_here number p ps same))
      | inr apart ↦
          let other : e.number ≢ number = λ is. apart (sym (shown.0.number_is ∙ is)) in
          numbered_later number (e.number, e.tree) (pairs es) other
          ∙ none_in_pages number ps es shown.1 (sym (found_later number p ps apart) ∙ none)
    ]

-- the text that was read of a number, or null where none is held, is what a row of the number shows
pub row_text_is : (contents : Contents) (container : Container)
    → ContentsHold contents container → (number : ℕ) (is_held : Bool) (text row : List ℕ)
    → IsAhead (finite.get contents.documents number) is_held text
    → (is_held ≡ true → row ≡ text) → (is_held ≡ false → row ≡ canonical_text trees.Null)
    → row ≡ canonical_text (tree_numbered number (pairs container.entries))
row_text_is contents container hold number is_held text row ahead held none =
    by_page (finite.get contents.documents number) refl ahead
  where
    by_page : (found : Option Stored) → finite.get contents.documents number ≡ found
        → IsAhead found is_held text
        → row ≡ canonical_text (tree_numbered number (pairs container.entries))
    by_page None at ahead =
        none ahead
        ∙ ap canonical_text (sym (none_in_pages number (finite.entries contents.documents) container.entries hold.show.shown
        (sym (finite.get-entries contents.documents number) ∙ at)))
    by_page (Some document) at ahead =
        held ahead.0 ∙ ahead.1
        ∙ in_pages number (finite.entries contents.documents) container.entries hold.show.shown document
        (sym (finite.get-entries contents.documents number) ∙ at)
