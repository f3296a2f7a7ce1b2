-- An image stands for one container at most, and the files of a fresh store for the fresh one.
use Rattle.std.proofs.Common.{◌≡◌, ℕ, List, [], ◌∷◌, length, refl, sym, ap, subst, ◌∙◌, arith}
use Rattle.std.specs.List.{AllByRecursion}
use Rattle.std.specs.Ordering.{nat_cmp}
use Rattle.std.specs.FinMap as finite
use Rattle.ax_disk.specs.model.Image.{Image}
use Rattle.ax_tree.specs.CanonicalText.{canonical_text}
use Rattle.ax_tree.specs.Document.{document_id}
use Rattle.ax_tree.proofs.OneText.{one_text}
use Rattle.ax_tree.proofs.Fitting.{numbers_fit-well_formed}
use Rattle.ax_container.specs.Container.{Entry, Container, IsStored, fresh}
use Rattle.ax_area.specs.Contents.{Contents, Stored, no_contents}
use Rattle.ax_area.specs.Image.{IsFresh}
use Rattle.ax_area.proofs.OneOutcome.{one_contents}
use Rattle.ax_area.proofs.OneTelling.{same_some}
use Rattle.ax_image_grammar.proofs.Fresh.{default_now, fresh_is}
use Rattle.ax_image.specs.Readable.{newest}
use Rattle.ax_image_grammar.specs.Payloads.{IsTextOf}
use Rattle.ax_image_grammar.specs.Table.{policy_text}
use Rattle.ax_image_grammar.proofs.OneContainer.{same_policy}
use Rattle.ax_image.specs.StandsFor.{AreUnder, ShowsEntry, ShowEntries, ContentsShow, StandsFor}

one_entry : (text : List ℕ) (number : ℕ) (document : Stored) (a b : Entry) → ShowsEntry number document a
    → ShowsEntry number document b → IsTextOf text a.indexed_by → IsTextOf text b.indexed_by
    → IsStored a → IsStored b → a ≡ b
one_entry text number document a b sa sb ua ub ha hb =
    let numbers : a.number ≡ b.number = sym sa.number_is ∙ sb.number_is in
    let texts : canonical_text a.tree ≡ canonical_text b.tree = sym sa.text_is ∙ sb.text_is in
    let trees : a.tree ≡ b.tree = one_text a.tree b.tree (numbers_fit-well_formed a.tree ha.storable.well_formed)
    (numbers_fit-well_formed b.tree hb.storable.well_formed) texts in
    let ids : a.id ≡ b.id = same_some a.id b.id (sym ha.own_id ∙ ap document_id trees ∙ hb.own_id) in
    let policies : a.indexed_by ≡ b.indexed_by = same_policy text a.indexed_by b.indexed_by ua ub in
    λ i. record { number = numbers i; id = ids i; tree = trees i; indexed_by = policies i }

one_list : (texts : ℕ → List ℕ) (documents : List (ℕ × Stored)) (xs ys : List Entry)
    → ShowEntries documents xs → ShowEntries documents ys
    → AreUnder texts documents xs → AreUnder texts documents ys
    → AllByRecursion IsStored xs → AllByRecursion IsStored ys → xs ≡ ys
one_list texts [] [] [] sx sy ux uy hx hy = refl
one_list texts [] [] (y ∷ ys) sx sy ux uy hx hy = absurd sy
one_list texts [] (x ∷ xs) ys sx sy ux uy hx hy = absurd sx
one_list texts (d ∷ ds) [] ys sx sy ux uy hx hy = absurd sx
one_list texts (d ∷ ds) (x ∷ xs) [] sx sy ux uy hx hy = absurd sy
one_list texts (d ∷ ds) (x ∷ xs) (y ∷ ys) sx sy ux uy hx hy =
    let first = one_entry (texts d.1.policy) d.0 d.1 x y sx.0 sy.0 ux.0 uy.0 hx.0 hy.0 in
    let others = one_list texts ds xs ys sx.1 sy.1 ux.1 uy.1 hx.1 hy.1 in
    λ i. first i ∷ others i

one_by_contents : (contents : Contents) (x y : Container) → ContentsShow contents x
    → ContentsShow contents y → x ≡ y
one_by_contents contents x y sx sy =
    let entries : x.entries ≡ y.entries =
    one_list (λ number. policy_text number contents) (finite.entries contents.documents) x.entries y.entries
    sx.shown sy.shown sx.under sy.under sx.sound.stored sy.sound.stored in
    let next : x.next_number ≡ y.next_number = sym sx.next ∙ sy.next in
    let policy : x.policy ≡ y.policy =
    same_policy (policy_text contents.policy_now contents) x.policy y.policy sx.policy sy.policy in
    λ i. record { entries = entries i; next_number = next i; policy = policy i }

pub one_container : (image : Image) (x y : Container) → StandsFor image x → StandsFor image y → x ≡ y
one_container image x y sx sy =
    let same = one_contents newest image sx.version sy.version sx.told sy.told sx.contents sy.contents
    sx.grammatical.says sy.grammatical.says in
    one_by_contents sx.contents x y sx.show
    (subst (λ contents. ContentsShow contents y) (sym same) sy.show)

no_element : {A : Type 0} (xs : List A) → length xs ≡ 0 → xs ≡ []
no_element [] e = refl
no_element (x ∷ xs) e = absurd (omega arith)

nothing_shows : ContentsShow no_contents fresh
nothing_shows =
    let nothing : finite.FinMap nat_cmp Stored = finite.empty in
    let none : finite.entries nothing ≡ [] =
    no_element _ (sym (finite.len-entries nothing) ∙ finite.len-empty nat_cmp Stored) in
    record {
      next = refl;
      shown = subst (λ documents. ShowEntries documents []) (sym none) tt;
      under = subst (λ documents. AreUnder (λ number. policy_text number no_contents) documents []) (sym none) tt;
      policy = default_now;
      sound = record { numbers = omega arith; last = omega arith; few = omega arith; distinct = tt; stored = tt };
    }

pub fresh_files : (image : Image) → IsFresh image → StandsFor image fresh
fresh_files image is = record {
  version = newest;
  told = [];
  contents = no_contents;
  grammatical = fresh_is newest image is;
  show = nothing_shows;
}
