-- An image stands for one thing at most.
use Rattle.std.proofs.Common.{◌≡◌, ℕ, List, [], ◌∷◌, refl, sym, ap, subst, ◌∙◌}
use Rattle.std.specs.FinMap as map
use Rattle.ax_disk.specs.model.Image.{Image}
use Rattle.ax_tree.specs.Document.{document_id}
use Rattle.ax_tree.proofs.OneText.{one_text}
use Rattle.ax_tree.proofs.Fitting.{numbers_fit-well_formed}
use Rattle.ax_policy.specs.declared.policy.Policy.{Policy}
use Rattle.ax_policy.specs.Normal.{normal_tree}
use Rattle.ax_policy.proofs.NormalFits.{one_policy}
use Rattle.ax_pairs.specs.PairSets.{PairSet}
use Rattle.ax_area.specs.Contents.{Contents, Stored}
use Rattle.ax_area.proofs.OneTelling.{same_some}
use Rattle.ax_area.proofs.OneOutcome.{one_contents}
use Rattle.ax_image_grammar.specs.Container.{Entry, Container}
use Rattle.ax_image_grammar.specs.Payloads.{IsTextOf}
use Rattle.ax_image_grammar.specs.StandsFor.{IsShown, AreShown, ContentsStandFor, StandsFor}

pub same_policy : (text : List ℕ) (a b : Policy) → IsTextOf text a → IsTextOf text b → a ≡ b
same_policy text a b ta tb =
    one_policy (normal_tree a) (normal_tree b) a b ta.is_policy tb.is_policy
    (sym ta.spelled ∙ tb.spelled)

one_entry : (contents : Contents) (number : ℕ) (document : Stored) (a b : Entry)
    → IsShown contents number document a → IsShown contents number document b → a ≡ b
one_entry contents number document a b sa sb =
    let numbers : a.number ≡ b.number = sym sa.number_is ∙ sb.number_is in
    let versions : a.version ≡ b.version = sym sa.version_is ∙ sb.version_is in
    let trees : a.tree ≡ b.tree =
    one_text a.tree b.tree (numbers_fit-well_formed a.tree sa.well_formed)
    (numbers_fit-well_formed b.tree sb.well_formed) (sym sa.text_is ∙ sb.text_is) in
    let ids : a.id ≡ b.id = same_some a.id b.id
    (sym sa.own_id ∙ ap document_id trees ∙ sb.own_id) in
    let policies : a.indexed_by ≡ b.indexed_by =
    same_policy _ a.indexed_by b.indexed_by sa.indexed_by sb.indexed_by in
    λ i. record {
      number = numbers i;
      id = ids i;
      tree = trees i;
      indexed_by = policies i;
      version = versions i;
    }

one_list : (contents : Contents) (documents : List (ℕ × Stored)) (xs ys : List Entry)
    → AreShown contents documents xs → AreShown contents documents ys → xs ≡ ys
one_list contents [] [] [] sx sy = refl
one_list contents [] [] (y ∷ ys) sx sy = absurd sy
one_list contents [] (x ∷ xs) ys sx sy = absurd sx
one_list contents (d ∷ ds) [] ys sx sy = absurd sx
one_list contents (d ∷ ds) (x ∷ xs) [] sx sy = absurd sy
one_list contents (d ∷ ds) (x ∷ xs) (y ∷ ys) sx sy =
    let first = one_entry contents d.0 d.1 x y sx.0 sy.0 in
    let others = one_list contents ds xs ys sx.1 sy.1 in
    λ i. first i ∷ others i

pub one_by_contents : (contents : Contents) (x y : Container) → ContentsStandFor contents x
    → ContentsStandFor contents y → x ≡ y
one_by_contents contents x y sx sy =
    let entries : x.entries ≡ y.entries = one_list contents
    (map.entries contents.documents) x.entries y.entries sx.shown sy.shown in
    let numbers : x.next_number ≡ y.next_number = sym sx.next_number ∙ sy.next_number in
    let versions : x.next_version ≡ y.next_version = sym sx.next_version ∙ sy.next_version in
    let now : x.policy_now ≡ y.policy_now = same_policy _ x.policy_now y.policy_now sx.now sy.now in
    λ i. record {
      entries = entries i;
      next_number = numbers i;
      next_version = versions i;
      policy_now = now i;
    }

pub one_container : (newest : ℕ) (pairs : Container → PairSet) (image : Image) (x y : Container)
    → StandsFor newest pairs image x → StandsFor newest pairs image y → x ≡ y
one_container newest pairs image x y sx sy =
    let same = one_contents newest image sx.version sy.version sx.told sy.told
    sx.contents sy.contents sx.grammatical.says sy.grammatical.says in
    one_by_contents sx.contents x y sx.stand (subst (λ contents. ContentsStandFor contents y)
    (sym same) sy.stand)
