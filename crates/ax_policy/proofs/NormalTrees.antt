-- Members put behind one another, in the order of their names.
use Rattle.std.proofs.Common.{◌≡◌, ℕ, List, [], ◌∷◌, map, Bool, true, false, ap, ◌∙◌}
use Rattle.std.specs.Prelude.{codes}
use Rattle.ax_tree.specs.Names.{names, HaveRisingNames}
use Rattle.ax_tree.specs.Rising.{is_rising}
use Rattle.ax_tree.specs.declared.members.Member.{Member}
use Rattle.ax_tree.specs.declared.tree.Tree.{Tree}
use Rattle.ax_tree.specs.declared.tree.Tree.TheVariants as tree
use Rattle.ax_mean.specs.declared.query.Order.{Order}
use Rattle.ax_policy.specs.declared.policy.Policy.{Policy}
use Rattle.ax_policy.specs.Composites.{composite_tree}
use Rattle.ax_policy.specs.Normal.{behind, mode_word, path_trees, normal_tree}

abbrev pub one_of : List ℕ → Tree → List (Member Tree)
one_of name value = record { name = name; value = value } ∷ []

pub one : (none first : List (Member Tree)) (name : List ℕ) (value : Tree) → none ≡ []
    → first ≡ behind none name value → first ≡ one_of name value
one none first name value e f = f ∙ ap (λ l. behind l name value) e

abbrev pub two_of : List ℕ → Tree → List ℕ → Tree → List (Member Tree)
two_of a x b y = record { name = a; value = x } ∷ one_of b y

pub two : (none first second : List (Member Tree)) (a b : List ℕ) (x y : Tree) → none ≡ []
    → first ≡ behind none a x → second ≡ behind first b y → second ≡ two_of a x b y
two none first second a b x y e f g = g ∙ ap (λ l. behind l b y) (one none first a x e f)

pub five : (none m1 m2 m3 m4 m5 : List (Member Tree)) (v1 v2 v3 v4 v5 : Tree) → none ≡ []
    → m1 ≡ behind none (codes "automatic") v1
    → m2 ≡ behind m1 (codes "compositeIndexes") v2
    → m3 ≡ behind m2 (codes "excludedPaths") v3
    → m4 ≡ behind m3 (codes "includedPaths") v4
    → m5 ≡ behind m4 (codes "indexingMode") v5
    → m5 ≡ record { name = codes "automatic"; value = v1 } ∷ record { name = codes "compositeIndexes"; value = v2 }
    ∷ record { name = codes "excludedPaths"; value = v3 } ∷ record { name = codes "includedPaths"; value = v4 }
    ∷ record { name = codes "indexingMode"; value = v5 } ∷ []
five none m1 m2 m3 m4 m5 v1 v2 v3 v4 v5 e a b c d f =
    f ∙ ap (λ l. behind l (codes "indexingMode") v5)
    (d ∙ ap (λ l. behind l (codes "includedPaths") v4)
    (c ∙ ap (λ l. behind l (codes "excludedPaths") v3)
    (b ∙ ap (λ l. behind l (codes "compositeIndexes") v2)
    (one none m1 (codes "automatic") v1 e a))))

pub rising : (members known : List (Member Tree)) → members ≡ known → HaveRisingNames known
    → HaveRisingNames members
rising members known e r = ap (λ l. is_rising (names l)) e ∙ r

-- the members of a normal tree
abbrev pub five_of : Tree → Tree → Tree → Tree → Tree → List (Member Tree)
five_of v1 v2 v3 v4 v5 =
    record { name = codes "automatic"; value = v1 } ∷ record { name = codes "compositeIndexes"; value = v2 }
    ∷ record { name = codes "excludedPaths"; value = v3 } ∷ record { name = codes "includedPaths"; value = v4 }
    ∷ record { name = codes "indexingMode"; value = v5 } ∷ []

pub made : (policy : Policy) (rules : List (Member Bool)) (composites : List (List Order))
    (word : List ℕ) (members : List (Member Tree))
    → members ≡ five_of (tree.Truth policy.automatic) (tree.List (map composite_tree composites))
    (tree.List (path_trees false rules)) (tree.List (path_trees true rules)) (tree.Text word)
    → rules ≡ policy.rules → composites ≡ policy.composites → word ≡ mode_word policy.mode
    → tree.Object members ≡ normal_tree policy
made policy rules composites word members e r c w =
    ap tree.Object
    (e
    ∙ ap (λ l. five_of (tree.Truth policy.automatic) (tree.List (map composite_tree l))
    (tree.List (path_trees false rules)) (tree.List (path_trees true rules)) (tree.Text word)) c
    ∙ ap (λ l. five_of (tree.Truth policy.automatic) (tree.List (map composite_tree policy.composites))
    (tree.List (path_trees false l)) (tree.List (path_trees true l)) (tree.Text word)) r
    ∙ ap (λ l. five_of (tree.Truth policy.automatic) (tree.List (map composite_tree policy.composites))
    (tree.List (path_trees false policy.rules)) (tree.List (path_trees true policy.rules)) (tree.Text l)) w)
