-- A tree nests as deep as the data that it is the tree of.
use Rattle.std.proofs.Common.{◌≡◌, ℕ, ℤ, suc, List, ◌∷◌, map, max, Option, Some, None, option_map, refl, ap, ap₂, ◌∙◌, add-one, subst, ◌≤◌, arith}
use Rattle.std.specs.Option.{IfSome}
use Rattle.serde_json.specs.Data as serde
use Rattle.serde_json.specs.Find.{as_i64}
use Rattle.ax_tree.specs.Nesting.{nesting, greatest}
use Rattle.ax_tree.specs.declared.tree.Tree as tree
use Rattle.ax_text.specs.TreeOf.{both, named, tree_of, items_of, members_of}
use Rattle.ax_text.proofs.Levels.{deepest, nesting-Null, nesting-Truth, nesting-Number, nesting-Text, nesting-List, nesting_object}

-- what holds of each, holds of both
pub of_both : {A : Type 0} (first : Option A) (rest : Option (List A)) (P : A → Type 0)
    (Q R : List A → Type 0)
    → ((a : A) (l : List A) → P a → Q l → R (a ∷ l)) → IfSome first P → IfSome rest Q
    → IfSome (both first rest) R
of_both None rest P Q R f p q = tt
of_both (Some a) None P Q R f p q = tt
of_both (Some a) (Some l) P Q R f p q = f a l p q

pub of_map : {A B : Type 0} (o : Option A) (g : A → B) (P : A → Type 0) (Q : B → Type 0)
    → ((a : A) → P a → Q (g a)) → IfSome o P → IfSome (option_map g o) Q
of_map None g P Q f p = tt
of_map (Some a) g P Q f p = f a p

number_depth : (o : Option ℤ) → IfSome (option_map tree.Number o) (λ t. nesting t ≡ 0)
number_depth None = tt
number_depth (Some z) = nesting-Number z

mutual
  pub tree_depth : (d : serde.Data) → IfSome (tree_of d) (λ t. nesting t ≡ serde.depth d)
  tree_depth serde.null = nesting-Null
  tree_depth (serde.boolean b) = nesting-Truth b
  tree_depth (serde.number n) = number_depth (as_i64 n)
  tree_depth (serde.string s) = nesting-Text s
  tree_depth (serde.array ds) =
      of_map (items_of ds) tree.List (λ ts. greatest (map nesting ts) ≡ serde.items_depth ds)
      (λ t. nesting t ≡ suc (serde.items_depth ds)) (λ ts e. nesting-List ts ∙ add-one _ ∙ ap suc e)
      (items_depth ds)
  tree_depth (serde.object ms) =
      of_map (members_of ms) tree.Object (λ l. deepest l ≡ serde.members_depth ms)
      (λ t. nesting t ≡ suc (serde.members_depth ms))
      (λ l e. nesting_object l ∙ add-one _ ∙ ap suc e) (members_depth ms)

  items_depth : (ds : serde.Items)
      → IfSome (items_of ds) (λ ts. greatest (map nesting ts) ≡ serde.items_depth ds)
  items_depth serde.no_items = refl
  items_depth (serde.item d ds) =
      of_both (tree_of d) (items_of ds) (λ t. nesting t ≡ serde.depth d)
      (λ ts. greatest (map nesting ts) ≡ serde.items_depth ds) _
      (λ t ts p q. ap₂ max p q) (tree_depth d) (items_depth ds)

  members_depth : (ms : serde.Members)
      → IfSome (members_of ms) (λ l. deepest l ≡ serde.members_depth ms)
  members_depth serde.no_members = refl
  members_depth (serde.member k d ms) =
      of_both (named k (tree_of d)) (members_of ms) (λ m. nesting m.value ≡ serde.depth d)
      (λ l. deepest l ≡ serde.members_depth ms) _
      (λ m l p q. ap₂ max p q)
      (of_map (tree_of d) (λ t. record { name = k; value = t }) (λ t. nesting t ≡ serde.depth d)
      (λ m. nesting m.value ≡ serde.depth d) (λ t p. p) (tree_depth d)) (members_depth ms)

pub depth_of : (d : serde.Data) (t : tree.Tree) → tree_of d ≡ Some t → nesting t ≡ serde.depth d
depth_of d t e = subst (λ o. IfSome o (λ s. nesting s ≡ serde.depth d)) e (tree_depth d)

pub nesting_bound : (d : serde.Data) (t : tree.Tree) (n : ℕ) → tree_of d ≡ Some t
    → serde.depth d ≤ n → nesting t ≤ n
nesting_bound d t n e h = let same : nesting t ≡ serde.depth d = depth_of d t e in omega arith
