-- What a store holds under a number is the document of the entry of that number.
use Rattle.std.proofs.Common.{◌≡◌, ℕ, List, [], ◌∷◌, true, false, cond, Some, None, nat_eq, option_map, refl, sym, ap, ◌∙◌}
use Rattle.std.specs.FinMap as finite
use Rattle.std.specs.List.{AllByRecursion}
use Rattle.std.specs.Ordering.{nat_cmp}
use Rattle.ax_tree.specs.CanonicalText.{canonical_text}
use Rattle.ax_area.specs.Contents.{Contents, Stored}
use Rattle.ax_container.specs.Container.{Container, Entry, IsStored, entry_at}
use Rattle.ax_image.specs.Documents.{ContentsHold}
use Rattle.ax_image.specs.StandsFor.{ShowEntries}
use Rattle.ax_image.proofs.Shown.{same_some, same_test}
use Rattle.ax_skips.specs.Chosen.{document_at}
use Rattle.ax_skips.specs.Held.{IsDocumentAt}

record Shows (number : ℕ) (es : List Entry) (held : Stored) : Type 0 where
  entry : Entry
  at : entry_at number es ≡ Some entry
  spelled : held.text ≡ canonical_text entry.tree
  stored : IsStored entry

module _ (number : ℕ) where
  shows : (documents : List (ℕ × Stored)) (es : List Entry) (held : Stored) → ShowEntries documents es
      → AllByRecursion IsStored es → finite.find nat_cmp number documents ≡ Some held → Shows number es held
  shows [] [] held shown stored is = absurd (let e : ⊥ = cc in e)
  shows [] (e ∷ es) held shown stored is = absurd shown
  shows (p ∷ ps) [] held shown stored is = absurd shown
  shows (p ∷ ps) (e ∷ es) held shown stored is =
      elim (nat_eq e.number number) as
      (λ b. nat_eq e.number number ≡ b → cond b (Some p.1) (finite.find nat_cmp number ps) ≡ Some held → Shows number (e ∷ es) held) [
        | true ↦ λ same at.
            record {
              entry = e;
              at = ap (λ b. cond b (Some e) (entry_at number es)) same;
              spelled = ap (λ (d : Stored). d.text) (sym (same_some p.1 held at)) ∙ shown.0.text_is;
              stored = stored.0;
            }
        | false ↦ λ other at.
            let more : Shows number es held = shows ps es held shown.1 stored.1 at in
            record {
              entry = more.entry;
              at = ap (λ b. cond b (Some e) (entry_at number es)) other ∙ more.at;
              spelled = more.spelled;
              stored = more.stored;
            }
      ] refl (ap (λ b. cond b (Some p.1) (finite.find nat_cmp number ps)) (sym (same_test number p e shown.0)) ∙ is)

  shows_none : (documents : List (ℕ × Stored)) (es : List Entry) → ShowEntries documents es
      → finite.find nat_cmp number documents ≡ None → entry_at number es ≡ None
  shows_none [] [] shown is = refl
  shows_none [] (e ∷ es) shown is = absurd shown
  shows_none (p ∷ ps) [] shown is = absurd shown
  shows_none (p ∷ ps) (e ∷ es) shown is =
      elim (nat_eq e.number number) as
      (λ b. cond b (Some p.1) (finite.find nat_cmp number ps) ≡ None → cond b (Some e) (entry_at number es) ≡ None) [
        | true ↦ λ at. absurd (let e : ⊥ = cc in e)
        | false ↦ λ at. shows_none ps es shown.1 at
      ] (ap (λ b. cond b (Some p.1) (finite.find nat_cmp number ps)) (sym (same_test number p e shown.0)) ∙ is)

module _ (contents : Contents) (container : Container) (number : ℕ) where
  pub document_held : (held : Stored) → ContentsHold contents container → finite.get contents.documents number ≡ Some held
      → IsDocumentAt container number held
  document_held held hold is =
      let own : Shows number container.entries held =
      shows number (finite.entries contents.documents) container.entries held hold.show.shown hold.show.sound.stored
      (sym (finite.get-entries contents.documents number) ∙ is) in
      record {
        tree = own.entry.tree;
        at = ap (option_map (λ (entry : Entry). (number, entry.tree))) own.at;
        spelled = own.spelled;
        storable = own.stored.storable;
      }

  pub none_held : ContentsHold contents container → finite.get contents.documents number ≡ None → document_at container number ≡ None
  none_held hold is =
      ap (option_map (λ (entry : Entry). (number, entry.tree)))
      (shows_none number (finite.entries contents.documents) container.entries hold.show.shown
      (sym (finite.get-entries contents.documents number) ∙ is))
