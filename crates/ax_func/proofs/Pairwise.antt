-- Two lists compared element by element: a turn of the loop, and lists that are not as long.
use Rattle.std.proofs.Common.{◌≡◌, ◌≢◌, ℕ, ◌+◌, ◌<◌, List, [], ◌∷◌, map, length, drop, suc, subst, Bool, true, false, ◌&&◌, get_or, refl, sym, ap, ap₂, ◌∙◌}
use Rattle.std.proofs.lemmas.List.{drop_more}
use Rattle.std.specs.Str.{bytes_eq}
use Rattle.ax_tree.specs.declared.members.Member.{Member}
use Rattle.ax_tree.specs.declared.tree.Tree.{Tree}
use Rattle.ax_mean.specs.Sameness.{is_same, member_test, all_pass, all_members_pass}

abbrev pub items_pass : List Tree → List Tree → Bool
items_pass xs ys = all_pass (map is_same xs) ys

abbrev pub members_pass : List (Member Tree) → List (Member Tree) → Bool
members_pass xs ys = all_members_pass (map member_test xs) ys

-- what is left of a list begins with the element at that place
left_at : {X : Type 0} (xs : List X) (i : ℕ) (x : X) → i < length xs → x ≡ get_or xs i x
    → drop i xs ≡ x ∷ drop (i + 1) xs
left_at xs i x l e = drop_more xs i x l ∙ ap (λ y. y ∷ drop (i + 1) xs) (sym e)

-- a function of two lists, of what is left of them at a place
pub both_left : {X Y : Type 0} (F : List X → List X → Y) (xs ys : List X) (i : ℕ) (x y : X)
    → i < length xs → i < length ys → x ≡ get_or xs i x → y ≡ get_or ys i y
    → F (drop i xs) (drop i ys) ≡ F (x ∷ drop (i + 1) xs) (y ∷ drop (i + 1) ys)
both_left F xs ys i x y l m e f = ap₂ F (left_at xs i x l e) (left_at ys i y m f)

and_false : (b : Bool) {c : Bool} → c ≡ false → (b && c) ≡ false
and_false true e = e
and_false false e = refl

pub items_pass-uneven : (xs ys : List Tree) → length xs ≢ length ys → items_pass xs ys ≡ false
items_pass-uneven [] [] h = absurd (h refl)
items_pass-uneven [] (y ∷ ys) h = refl
items_pass-uneven (x ∷ xs) [] h = refl
items_pass-uneven (x ∷ xs) (y ∷ ys) h =
    and_false (is_same x y) (items_pass-uneven xs ys (λ e. h (ap suc e)))

pub members_pass-uneven : (xs ys : List (Member Tree)) → length xs ≢ length ys
    → members_pass xs ys ≡ false
members_pass-uneven [] [] h = absurd (h refl)
members_pass-uneven [] (y ∷ ys) h = refl
members_pass-uneven (x ∷ xs) [] h = refl
members_pass-uneven (x ∷ xs) (y ∷ ys) h =
    and_false (bytes_eq x.name y.name && is_same x.value y.value)
    (members_pass-uneven xs ys (λ e. h (ap suc e)))

module _ {X : Type 0} (xs ys : List X) (i : ℕ) (x y : X) (within : i < length xs)
    (even : length xs ≡ length ys) (x_at : x ≡ get_or xs i x) (y_at : y ≡ get_or ys i y) where
  -- a test of two lists, of what is left of them at a place
  pub turn : {Y : Type 0} (test : List X → List X → Y)
      → test (drop i xs) (drop i ys) ≡ test (x ∷ drop (i + 1) xs) (y ∷ drop (i + 1) ys)
  turn test = both_left test xs ys i x y within (subst (λ n. i < n) even within) x_at y_at
