-- Which policy a text is of, by the tree whose canonical text it is.
use Rattle.std.proofs.Common.{◌≡◌, ◌≤◌, ℕ, List, Some, None, sym, ap, subst, ◌∙◌}
use Rattle.ax_area.proofs.OneTelling.{same_some, some_or_none}
use Rattle.ax_image_grammar.specs.Payloads.{IsTextOf}
use Rattle.ax_policy.specs.declared.policy.Policy.{Policy}
use Rattle.ax_policy.specs.Normal.{normal_text, normal_tree}
use Rattle.ax_policy.specs.Policies.{policy_of}
use Rattle.ax_text.specs.Reading.{reading, Stands, NotJson, NotWhole}
use Rattle.ax_tree.proofs.Fitting.{numbers_fit-well_formed}
use Rattle.ax_tree.proofs.OneText.{one_text}
use Rattle.ax_tree.specs.CanonicalText.{canonical_text}
use Rattle.ax_tree.specs.Nesting.{nesting}
use Rattle.ax_tree.specs.WellFormed.{IsWellFormed}
use Rattle.ax_tree.specs.declared.tree.Tree.{Tree}
use Rattle.ax_table.proofs.NormalShape.{normal_fits, normal_nests}

module _ (tree : Tree) (text : List ℕ) (fine : IsWellFormed tree) (spelled : text ≡ canonical_text tree) where
  -- a tree whose text is a policy's normal text is the policy's normal tree
  normal_tree_is : (policy : Policy) → text ≡ normal_text policy → tree ≡ normal_tree policy
  normal_tree_is policy normal =
      one_text tree (normal_tree policy) (numbers_fit-well_formed tree fine) (normal_fits policy) (sym spelled ∙ normal)

  pub is_text_of : (policy : Policy) → policy_of tree ≡ Some policy → text ≡ normal_text policy → IsTextOf text policy
  is_text_of policy is normal =
      let same : tree ≡ normal_tree policy = normal_tree_is policy normal in
      record {
        well_formed = subst IsWellFormed same fine;
        is_policy = subst (λ t. policy_of t ≡ Some policy) same is;
        spelled = normal;
      }

  policy_is : (policy : Policy) → IsTextOf text policy → policy_of tree ≡ Some policy
  policy_is policy of = subst (λ t. policy_of t ≡ Some policy) (sym (normal_tree_is policy of.spelled)) of.is_policy

  -- the tree is no policy
  pub no_policy : policy_of tree ≡ None → (policy : Policy) → IsTextOf text policy → ⊥
  no_policy none policy of = some_or_none policy (sym none ∙ policy_is policy of)

  -- it is a policy of another normal text
  pub not_normal : (read : Policy) → policy_of tree ≡ Some read → (text ≡ normal_text read → ⊥) → (policy : Policy) → IsTextOf text policy → ⊥
  not_normal read is apart policy of =
      let same : policy ≡ read = same_some policy read (sym (policy_is policy of) ∙ is) in
      apart (of.spelled ∙ ap normal_text same)

-- ---- what a policy's text stands for

abbrev pub ReadBack : Type 0
ReadBack = (tree : Tree) → IsWellFormed tree → nesting tree ≤ 127 → reading (canonical_text tree) ≡ Stands tree

stands : ReadBack → (text : List ℕ) (policy : Policy) → IsTextOf text policy → reading text ≡ Stands (normal_tree policy)
stands back text policy of = ap reading of.spelled ∙ back (normal_tree policy) of.well_formed (normal_nests policy)

same_stands : (a b : Tree) → Stands a ≡ Stands b → a ≡ b
same_stands a b e = cc

pub no_json : ReadBack → (text : List ℕ) → reading text ≡ NotJson → (policy : Policy) → IsTextOf text policy → ⊥
no_json back text is policy of = let e : NotJson ≡ Stands (normal_tree policy) = sym is ∙ stands back text policy of in cc

pub not_whole : ReadBack → (text : List ℕ) → reading text ≡ NotWhole → (policy : Policy) → IsTextOf text policy → ⊥
not_whole back text is policy of = let e : NotWhole ≡ Stands (normal_tree policy) = sym is ∙ stands back text policy of in cc

-- the text is the canonical text of the tree that it stands for
pub not_spelled : ReadBack → (text : List ℕ) (tree : Tree) → reading text ≡ Stands tree → (text ≡ canonical_text tree → ⊥)
    → (policy : Policy) → IsTextOf text policy → ⊥
not_spelled back text tree is apart policy of =
    let same : normal_tree policy ≡ tree = same_stands (normal_tree policy) tree (sym (stands back text policy of) ∙ is) in
    apart (of.spelled ∙ ap canonical_text same)
