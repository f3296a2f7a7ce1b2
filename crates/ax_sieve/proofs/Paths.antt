-- One step of a path after another, each in the text of the one before.
use Rattle.std.proofs.Common.{◌≡◌, ℕ, List, [], ◌∷◌, true, Option, Some, None, ◌++◌, refl, sym, ap, ◌∙◌}
use Rattle.std.specs.Option.{option_map}
use Rattle.std.proofs.lemmas.Bool.{and_parts}
use Rattle.json.specs.Print.{quoted}
use Rattle.ax_tree.specs.CanonicalText.{canonical_text}
use Rattle.ax_tree.specs.Document.{member}
use Rattle.ax_tree.specs.declared.tree.Tree.{Tree}
use Rattle.ax_mean.specs.declared.expr.QueryStep.{QueryStep}
use Rattle.ax_mean.specs.declared.expr.QueryStep.TheVariants as step
use Rattle.ax_mean.specs.declared.value.Value.{Value}
use Rattle.ax_mean.specs.declared.value.Value.TheVariants.{Undefined, Defined}
use Rattle.ax_mean.specs.Steps.{steps_from}
use Rattle.ax_mean.specs.Values.{of_tree}
use Rattle.ax_sieve.specs.Names.{are_plain, is_plain}
use Rattle.ax_sieve.proofs.PlainNames.{plain_name}

-- the rest is the text of a tree in which the steps that are left lead to the value
pub record IsOnPath (rest : List ℕ) (left : List QueryStep) (value : Value) : Type 0 where
  pub at : Tree
  pub stands : rest ≡ canonical_text at
  pub same : steps_from (Defined at) left ≡ value

pub on_path : (text : List ℕ) (steps : List QueryStep) (tree : Tree) → text ≡ canonical_text tree
    → IsOnPath text steps (steps_from (Defined tree) steps)
on_path text steps tree is = record { at = tree; stands = is; same = refl }

pub nothing_behind : (steps : List QueryStep) → steps_from Undefined steps ≡ Undefined
nothing_behind [] = refl
nothing_behind (s ∷ steps) = nothing_behind steps

module _ (rest name : List ℕ) (left more : List QueryStep) (value : Value)
    (is : left ≡ step.Member name ∷ more) (on : IsOnPath rest left value) where
  looks : steps_from (of_tree (member name on.at)) more ≡ value
  looks = sym (ap (steps_from (Defined on.at)) is) ∙ on.same

  pub absent : None ≡ option_map canonical_text (member name on.at) → Undefined ≡ value
  absent none = by (member name on.at) none looks
    where
      by : (found : Option Tree) → None ≡ option_map canonical_text found
          → steps_from (of_tree found) more ≡ value → Undefined ≡ value
      by None none same = sym (nothing_behind more) ∙ same
      by (Some t) none same = absurd (let e : ⊥ = cc in e)

  pub one_step : (text : List ℕ) → Some text ≡ option_map canonical_text (member name on.at)
      → IsOnPath text more value
  one_step text some = by (member name on.at) some looks
    where
      some_same : (a b : List ℕ) → Some a ≡ Some b → a ≡ b
      some_same a b e = cc

      by : (found : Option Tree) → Some text ≡ option_map canonical_text found
          → steps_from (of_tree found) more ≡ value → IsOnPath text more value
      by None some same = absurd (let e : ⊥ = cc in e)
      by (Some t) some same =
          record { at = t; stands = some_same text (canonical_text t) some; same = same }

pub plain_first : (name : List ℕ) (left more : List QueryStep) → left ≡ step.Member name ∷ more
    → are_plain left ≡ true → quoted name ≡ 34 ∷ name ++ 34 ∷ []
plain_first name left more is plain =
    plain_name name (and_parts (is_plain name) (are_plain more) (sym (ap are_plain is) ∙ plain)).0

pub plain_rest : (s : QueryStep) (left more : List QueryStep) → left ≡ s ∷ more
    → are_plain left ≡ true → are_plain more ≡ true
plain_rest s left more is plain = (and_parts _ (are_plain more) (sym (ap are_plain is) ∙ plain)).1
