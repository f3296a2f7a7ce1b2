-- Values that are equal in their order are the same: the keys of a scalar determine it, and a list or
-- a map is determined by its canonical text.
use Rattle.std.proofs.Common.{◌≡◌, ℕ, zero, suc, ℤ, List, Bool, true, false, Option, Some, None, ◌⊎◌, inl, inr, refl, sym, ap, ◌∙◌, subst, map}
use Rattle.std.specs.declared.cmp.Ordering.{Ordering}
use Rattle.std.specs.declared.cmp.Ordering.TheVariants.{Less, Equal, Greater}
use Rattle.std.specs.FinMap.{nat_cmp-IsAntisymmetric, int_cmp-IsAntisymmetric, slice_cmp-IsAntisymmetric}
use Rattle.std.specs.Ordering.{ordering_then, nat_cmp, int_cmp}
use Rattle.ax_tree.specs.declared.members.Member.{Member}
use Rattle.ax_tree.specs.declared.tree.Tree as tree
use Rattle.ax_tree.specs.declared.tree.Tree.{Tree}
use Rattle.ax_tree.specs.declared.tree.Tree.TheOpen.{Tree-F}
use Rattle.ax_tree.specs.declared.tree.Tree.TheViews.{roll-Tree}
use Rattle.ax_tree.specs.declared.tree.Tree.TheFolds.{map-Tree, ind-Tree}
use Rattle.ax_tree.specs.declared.tree.Tree.TheVariants.{rolls-Null, rolls-Truth, rolls-Number, rolls-Text, rolls-List, rolls-Object}
use Rattle.ax_tree.specs.CanonicalText.{canonical_text}
use Rattle.ax_tree.specs.WellFormed.{NumbersFit}
use Rattle.ax_tree.proofs.OneText.{one_text}
use Rattle.ax_mean.specs.declared.value.Value.{Value}
use Rattle.ax_mean.specs.declared.value.Value.TheVariants.{Undefined, Defined}
use Rattle.ax_mean.specs.ValueOrder.{rank, number_key, bytes_key, value_cmp}
use Rattle.ax_mean.specs.Fitting.{NumbersOfFit}

less_is_not : {A : Type 0} → Less ≡ Equal → A
less_is_not h = absurd (let e : ⊥ = cc in e)

greater_is_not : {A : Type 0} → Greater ≡ Equal → A
greater_is_not h = absurd (let e : ⊥ = cc in e)

both_equal : (o p : Ordering) → ordering_then o p ≡ Equal → (o ≡ Equal) × (p ≡ Equal)
both_equal Less p h = less_is_not h
both_equal Equal p h = (refl, h)
both_equal Greater p h = greater_is_not h

-- the scalar of these keys
abbrev scalar_of : ℕ → ℤ → List ℕ → Option Value
scalar_of zero number bytes = Some Undefined
scalar_of (suc zero) number bytes = Some (Defined tree.Null)
scalar_of (suc (suc zero)) number bytes = Some (Defined (tree.Truth false))
scalar_of (suc (suc (suc zero))) number bytes = Some (Defined (tree.Truth true))
scalar_of (suc (suc (suc (suc zero)))) number bytes = Some (Defined (tree.Number number))
scalar_of (suc (suc (suc (suc (suc zero))))) number bytes = Some (Defined (tree.Text bytes))
scalar_of (suc (suc (suc (suc (suc (suc n)))))) number bytes = None

abbrev scalar : Value → Option Value
scalar value = scalar_of (rank value) (number_key value) (bytes_key value)

-- a value is a scalar that its keys determine, or a list or map with its text
record IsLong (value : Value) : Type 0 where
  whole : Tree
  is : value ≡ Defined whole
  text : bytes_key value ≡ canonical_text whole
  apart : scalar value ≡ None

abbrev Told : Value → Type 0
Told value = (scalar value ≡ Some value) ⊎ IsLong value

abbrev ToldTree : Tree → Type 0
ToldTree t = Told (Defined t)

abbrev Kept : Type 0
Kept = (t : Tree) × ToldTree t

abbrev tree_of : Kept → Tree
tree_of e = e.0

abbrev member_of : Member Kept → Member Tree
member_of m = record { name = m.name; value = tree_of m.value }

told_null : ToldTree tree.Null
unfolding tree.out-Tree denote.Hole.Carrier.out
told_null = inl refl

told_truth : (b : Bool) → ToldTree (tree.Truth b)
unfolding tree.out-Tree denote.Hole.Carrier.out
told_truth true = inl refl
told_truth false = inl refl

told_number : (z : ℤ) → ToldTree (tree.Number z)
unfolding tree.out-Tree denote.Hole.Carrier.out
told_number z = inl refl

told_text : (s : List ℕ) → ToldTree (tree.Text s)
unfolding tree.out-Tree denote.Hole.Carrier.out
told_text s = inl refl

told_list : (items : List Tree) → ToldTree (tree.List items)
unfolding tree.out-Tree denote.Hole.Carrier.out
told_list items = inr (record { whole = tree.List items; is = refl; text = refl; apart = refl })

told_object : (members : List (Member Tree)) → ToldTree (tree.Object members)
unfolding tree.out-Tree denote.Hole.Carrier.out
told_object members =
    inr (record { whole = tree.Object members; is = refl; text = refl; apart = refl })

told_level : (y : Tree-F Kept) → ToldTree (roll-Tree (map-Tree Kept Tree tree_of y))
told_level Tree-F.Null = subst ToldTree (sym rolls-Null) told_null
told_level (Tree-F.Truth b) = subst ToldTree (sym (rolls-Truth b)) (told_truth b)
told_level (Tree-F.Number z) = subst ToldTree (sym (rolls-Number z)) (told_number z)
told_level (Tree-F.Text s) = subst ToldTree (sym (rolls-Text s)) (told_text s)
told_level (Tree-F.List es) =
    subst ToldTree (sym (rolls-List (map tree_of es))) (told_list (map tree_of es))
told_level (Tree-F.Object ms) =
    subst ToldTree (sym (rolls-Object (map member_of ms))) (told_object (map member_of ms))

told_tree : (t : Tree) → ToldTree t
told_tree = ind-Tree ToldTree (λ x y is. subst (λ z. ToldTree (roll-Tree z)) is (told_level y))

told : (value : Value) → Told value
told Undefined = inl refl
told (Defined t) = told_tree t

some_is_not : {A : Type 0} (v : Value) → Some v ≡ None → A
some_is_not v h = absurd (let e : ⊥ = cc in e)

some_same : (a b : Value) → Some a ≡ Some b → a ≡ b
some_same a b e = cc

fits_along : (a : Value) (t : Tree) → a ≡ Defined t → NumbersOfFit a → NumbersFit t
fits_along a t e fit = subst NumbersOfFit e fit

one : (a b : Value) → scalar a ≡ scalar b → bytes_key a ≡ bytes_key b → NumbersOfFit a
    → NumbersOfFit b → Told a → Told b → a ≡ b
one a b keys bytes fit_a fit_b (inl p) (inl q) = some_same a b (sym p ∙ keys ∙ q)
one a b keys bytes fit_a fit_b (inl p) (inr q) = some_is_not a (sym p ∙ keys ∙ q.apart)
one a b keys bytes fit_a fit_b (inr p) (inl q) = some_is_not b (sym q ∙ sym keys ∙ p.apart)
one a b keys bytes fit_a fit_b (inr p) (inr q) =
    p.is
    ∙ ap Defined
    (one_text p.whole q.whole (fits_along a p.whole p.is fit_a)
    (fits_along b q.whole q.is fit_b) (sym p.text ∙ bytes ∙ q.text)) ∙ sym q.is

pub one_value : (a b : Value) → NumbersOfFit a → NumbersOfFit b → value_cmp a b ≡ Equal → a ≡ b
one_value a b fit_a fit_b h =
    let ranks = both_equal (nat_cmp (rank a) (rank b)) _ h in
    let rest = both_equal (int_cmp (number_key a) (number_key b)) _ ranks.1 in
    let bytes =
    slice_cmp-IsAntisymmetric nat_cmp-IsAntisymmetric (bytes_key a) (bytes_key b) rest.1 in
    one a b
    (ap (λ r. scalar_of r (number_key a) (bytes_key a)) (nat_cmp-IsAntisymmetric _ _ ranks.0)
    ∙ ap (λ z. scalar_of (rank b) z (bytes_key a)) (int_cmp-IsAntisymmetric _ _ rest.0)
    ∙ ap (scalar_of (rank b) (number_key b)) bytes)
    bytes fit_a fit_b (told a) (told b)
