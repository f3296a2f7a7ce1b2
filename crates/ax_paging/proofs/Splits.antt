-- Where a list is cut: the last of its first elements, and what follows it.
use Rattle.std.proofs.Common.{◌≡◌, ℕ, zero, suc, ◌+◌, ◌-◌, ◌≤◌, List, [], ◌∷◌, ◌++◌, length, take, drop, Option, Some, None, refl, sym, ap, ◌∙◌, arith}
use Rattle.std.proofs.lemmas.List.{append_assoc, take-append-drop}
use Rattle.ax_mean.specs.Answer.{limited}
use Rattle.ax_paging.specs.Pages.{last, less_given}

-- x is the last of the first n elements, and bs follow it
pub record IsCut {X : Type 0} (n : ℕ) (xs bs : List X) : Type 0 where
  pub front : List X
  pub at : X
  pub whole : xs ≡ front ++ at ∷ bs
  pub ends : last (take n xs) ≡ Some at
  pub size : length front + 1 ≡ n
  pub given : length (take n xs) ≡ n

pub cut : {X : Type 0} (n : ℕ) (xs : List X) (b : X) (bs : List X) → 1 ≤ n → drop n xs ≡ b ∷ bs
    → IsCut n xs (b ∷ bs)
cut zero xs b bs low e = absurd (omega arith)
cut (suc n) [] b bs low e = absurd (let f : ⊥ = cc in f)
cut (suc zero) (x ∷ xs) b bs low e = record {
  front = [];
  at = x;
  whole = ap (λ ys. x ∷ ys) e;
  ends = refl;
  size = refl;
  given = refl;
}
cut (suc (suc n)) (x ∷ []) b bs low e = absurd (let f : ⊥ = cc in f)
cut (suc (suc n)) (x ∷ y ∷ ys) b bs low e =
    let c : IsCut (suc n) (y ∷ ys) (b ∷ bs) = cut (suc n) (y ∷ ys) b bs (omega arith) e in
    record {
      front = x ∷ c.front;
      at = c.at;
      whole = ap (λ zs. x ∷ zs) c.whole;
      ends = c.ends;
      size = omega (arith, c.size);
      given = ap suc c.given;
    }

-- what follows an element of a list that a limit cut
pub record IsLeft {X : Type 0} (left : Option ℕ) (front : List X) (at : X) (bs xs : List X) : Type 0 where
  pub rest : List X
  pub whole : xs ≡ front ++ at ∷ rest
  pub cut : limited (less_given left (length front + 1)) rest ≡ bs

tail_of : {X : Type 0} (x y : X) (xs ys : List X) → x ∷ xs ≡ y ∷ ys → xs ≡ ys
tail_of x y xs ys e = cc

head_of : {X : Type 0} (x y : X) (xs ys : List X) → x ∷ xs ≡ y ∷ ys → x ≡ y
head_of x y xs ys e = cc

pub some_left : {X : Type 0} (limit : ℕ) (front : List X) (at : X) (bs xs : List X)
    → take limit xs ≡ front ++ at ∷ bs → IsLeft (Some limit) front at bs xs
some_left zero [] at bs xs e = absurd (let f : ⊥ = cc in f)
some_left zero (x ∷ front) at bs xs e = absurd (let f : ⊥ = cc in f)
some_left (suc limit) [] at bs [] e = absurd (let f : ⊥ = cc in f)
some_left (suc limit) (x ∷ front) at bs [] e = absurd (let f : ⊥ = cc in f)
some_left (suc limit) [] at bs (x ∷ xs) e = record {
  rest = xs;
  whole = ap (λ y. y ∷ xs) (head_of x at (take limit xs) bs e);
  cut = ap (λ (n : ℕ). take n xs) (let f : suc limit - (0 + 1) ≡ limit = omega arith in f)
      ∙ tail_of x at (take limit xs) bs e;
}
some_left (suc limit) (y ∷ front) at bs (x ∷ xs) e =
    let l : IsLeft (Some limit) front at bs xs =
    some_left limit front at bs xs (tail_of x y (take limit xs) (front ++ at ∷ bs) e) in
    let fewer : suc limit - (suc (length front) + 1) ≡ limit - (length front + 1) = omega arith in
    record {
      rest = l.rest;
      whole = ap (λ z. z ∷ xs) (head_of x y (take limit xs) (front ++ at ∷ bs) e) ∙ ap (λ zs. y ∷ zs) l.whole;
      cut = ap (λ (n : ℕ). take n l.rest) fewer ∙ l.cut;
    }

pub left_behind : {X : Type 0} (left : Option ℕ) (front : List X) (at : X) (bs xs : List X)
    → limited left xs ≡ front ++ at ∷ bs → IsLeft left front at bs xs
left_behind None front at bs xs e = record { rest = bs; whole = e; cut = refl }
left_behind (Some limit) front at bs xs e = some_left limit front at bs xs e

-- with the elements that were dropped before it
pub dropped_before : {X : Type 0} (skip : ℕ) (xs front : List X) (at : X) (rest : List X)
    → drop skip xs ≡ front ++ at ∷ rest → xs ≡ (take skip xs ++ front) ++ at ∷ rest
dropped_before skip xs front at rest e =
    sym (take-append-drop skip xs) ∙ ap (λ ys. take skip xs ++ ys) e
    ∙ sym (append_assoc (take skip xs) front (at ∷ rest))

pub all_taken : {X : Type 0} (n : ℕ) (xs : List X) → drop n xs ≡ [] → xs ≡ take n xs ++ []
all_taken n xs e = sym (take-append-drop n xs) ∙ ap (λ ys. take n xs ++ ys) e
