-- How many terms there are in all, and how large they are, when one more comes.
use Rattle.std.proofs.Common.{◌≡◌, ℕ, ◌+◌, List, [], ◌∷◌, ◌++◌, Bool, true, false, cond, ◌||◌, length, refl, sym, ap, ◌∙◌, arith, max}
use Rattle.std.proofs.lemmas.Bool.{false≢true}
use Rattle.std.proofs.lemmas.List.Folds.{list_any-append}
use Rattle.std.proofs.lemmas.List.Sums.{sum_by-cons}
use Rattle.std.proofs.lemmas.Slice.Eq.{bytes_eq-Decides}
use Rattle.std.specs.Cmp.{both_ways}
use Rattle.std.specs.List.{sum_by}
use Rattle.std.specs.Set.{is_member, unique_keys}
use Rattle.std.specs.Str.{bytes_eq}
use Rattle.ax_tree.specs.Nesting.{greatest}

abbrev pub Terms : Type 0
Terms = List (List ℕ)

abbrev pub unique : Terms → Terms
unique ts = unique_keys bytes_eq ts

abbrev pub among : Terms → List ℕ → Bool
among ts t = is_member bytes_eq ts t

-- the weights of some terms together
abbrev pub weight : (List ℕ → ℕ) → Terms → ℕ
weight w [] = 0
weight w (t ∷ ts) = w t + weight w ts

pub weight-length : (ts : Terms) → length ts ≡ weight (λ t. 1) ts
weight-length [] = refl
weight-length (t ∷ ts) = let e = weight-length ts in omega (arith, e)

pub weight-sum : (ts : Terms) → sum_by length ts ≡ weight length ts
weight-sum [] = refl
weight-sum (t ∷ ts) = sum_by-cons length t ts ∙ ap (λ n. length t + n) (weight-sum ts)

pub weight-cond : (w : List ℕ → ℕ) (b : Bool) (t : List ℕ) (ts us : Terms)
    → weight w (cond b us (t ∷ ts)) ≡ cond b (weight w us) (w t + weight w ts)
weight-cond w true t ts us = refl
weight-cond w false t ts us = refl

pick : (m e f k : Bool) (x y u v : ℕ) → e ≡ f → (e ≡ true → m ≡ k) → (e ≡ true → y ≡ x)
    → v ≡ u + cond k 0 x → cond (m || (e || false)) v (y + v) ≡ cond m u (y + u) + cond (f || k) 0 x
pick true true true true x y u v same both like is = is
pick true true true false x y u v same both like is = absurd (false≢true (sym (both refl)))
pick true true false k x y u v same both like is = absurd (false≢true (sym same))
pick true false true k x y u v same both like is = absurd (false≢true same)
pick true false false k x y u v same both like is = is
pick false true true true x y u v same both like is = absurd (false≢true (both refl))
pick false true true false x y u v same both like is = let e : y ≡ x = like refl in omega (arith, e, is)
pick false true false k x y u v same both like is = absurd (false≢true (sym same))
pick false false true k x y u v same both like is = absurd (false≢true same)
pick false false false k x y u v same both like is = omega (arith, is)

pub symmetric : (a b : List ℕ) → bytes_eq a b ≡ bytes_eq b a
symmetric a b =
    both_ways _ _ (λ e. (bytes_eq-Decides b a).1 (sym ((bytes_eq-Decides a b).0 e)))
    (λ e. (bytes_eq-Decides a b).1 (sym ((bytes_eq-Decides b a).0 e)))

weight_more : (w : List ℕ → ℕ) (ts : Terms) (t : List ℕ)
    → weight w (unique (ts ++ t ∷ [])) ≡ weight w (unique ts) + cond (among ts t) 0 (w t)
weight_more w [] t = omega arith
weight_more w (y ∷ ys) t =
    let m = among ys y in
    let e = bytes_eq y t in
    weight-cond w (among (ys ++ t ∷ []) y) y (unique (ys ++ t ∷ [])) (unique (ys ++ t ∷ []))
    ∙ ap (λ b. cond b (weight w (unique (ys ++ t ∷ []))) (w y + weight w (unique (ys ++ t ∷ []))))
    (list_any-append (bytes_eq y) ys (t ∷ []))
    ∙ pick m e (bytes_eq t y) (among ys t) (w t) (w y) (weight w (unique ys))
    (weight w (unique (ys ++ t ∷ []))) (symmetric y t)
    (λ h. ap (among ys) ((bytes_eq-Decides y t).0 h)) (λ h. ap w ((bytes_eq-Decides y t).0 h))
    (weight_more w ys t)
    ∙ ap (λ n. n + cond (bytes_eq t y || among ys t) 0 (w t))
    (sym (weight-cond w (among ys y) y (unique ys) (unique ys)))

pub length_more : (ts : Terms) (t : List ℕ)
    → length (unique (ts ++ t ∷ [])) ≡ length (unique ts) + cond (among ts t) 0 1
length_more ts t =
    weight-length (unique (ts ++ t ∷ [])) ∙ weight_more (λ t. 1) ts t
    ∙ ap (λ n. n + cond (among ts t) 0 1) (sym (weight-length (unique ts)))

pub sum_more : (ts : Terms) (t : List ℕ)
    → sum_by length (unique (ts ++ t ∷ [])) ≡ sum_by length (unique ts) + cond (among ts t) 0 (length t)
sum_more ts t =
    weight-sum (unique (ts ++ t ∷ [])) ∙ weight_more length ts t
    ∙ ap (λ n. n + cond (among ts t) 0 (length t)) (sym (weight-sum (unique ts)))

pub greatest_more : (ns : List ℕ) (n : ℕ) → greatest (ns ++ n ∷ []) ≡ max (greatest ns) n
greatest_more [] n = omega arith
greatest_more (m ∷ ns) n = ap (max m) (greatest_more ns n) ∙ max_assoc m (greatest ns) n where
  max_assoc : (a b c : ℕ) → max a (max b c) ≡ max (max a b) c
  max_assoc a b c = omega arith
