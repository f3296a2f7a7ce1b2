-- How many pages pairs take: what the loops over them keep.
use Rattle.std.proofs.Common.{◌≡◌, ℕ, zero, suc, ◌+◌, ◌-◌, ◌<◌, ◌≤◌, List, [], ◌∷◌, length, drop}
use Rattle.std.proofs.Common.{get_or, arith, refl, sym, ap, ◌∙◌, subst, Bool, true, false, cond}
use Rattle.std.proofs.Common.{nat_lt}
use Rattle.std.proofs.lemmas.Bool.{le-ltb, lt-ltb}
use Rattle.std.proofs.lemmas.List.{drop_all, get_or_default}
use Rattle.std.proofs.Math.Seq.{drop-cons}
use Rattle.ax_pair.specs.declared.pair.Pair.{Pair}
use Rattle.ax_pages.specs.AfterPart.{most_term_pages}
use Rattle.ax_index.specs.PageSizes.{HasNumbers, TakePages, bytes_beside, rest_from, rest_of}

-- ---- one page

pub begun : (pairs : List Pair) (d : Pair) → 0 < length pairs → rest_of pairs ≡ rest_from 25 (get_or pairs 0 d) (drop 1 pairs) (drop 1 pairs)
unfolding rest_of
begun [] d some = absurd (omega arith)
begun (p ∷ pairs) d some = refl

module _ (pairs : List Pair) (i bytes front : ℕ) (before pair : Pair) (there : i < length pairs) (behind : 0 < i)
    (before_is : before ≡ get_or pairs (i - 1) before) (pair_is : pair ≡ get_or pairs i pair)
    (so_far : (d : Pair) → 0 < length pairs → rest_of pairs ≡ rest_from bytes (get_or pairs (i - 1) d) (drop front pairs) (drop i pairs)) where
  here : rest_of pairs ≡ rest_from bytes before (drop front pairs) (pair ∷ drop (suc i) pairs)
  here =
      so_far before (omega (arith, there))
      ∙ ap (λ (q : Pair). rest_from bytes q (drop front pairs) (drop i pairs)) (sym before_is)
      ∙ ap (rest_from bytes before (drop front pairs)) (drop-cons pairs i pair there ∙ ap (λ (q : Pair). q ∷ drop (suc i) pairs) (sym pair_is))

  pub cut_here : (later : ℕ) → later ≡ bytes + bytes_beside before pair → 4096 < later → drop front pairs ≡ rest_of pairs
  unfolding rest_from
  cut_here later is over =
      sym (here
      ∙ ap (λ (b : Bool). cond b (drop front pairs)
      (rest_from (bytes + bytes_beside before pair) pair
      (cond (nat_lt 2048 (bytes + bytes_beside before pair)) (drop front pairs) (drop (suc i) pairs)) (drop (suc i) pairs)))
      (lt-ltb 4096 (bytes + bytes_beside before pair) (omega (arith, is, over))))

  further : bytes + bytes_beside before pair ≤ 4096
      → rest_of pairs ≡ rest_from (bytes + bytes_beside before pair) pair
      (cond (nat_lt 2048 (bytes + bytes_beside before pair)) (drop front pairs) (drop (suc i) pairs)) (drop (suc i) pairs)
  unfolding rest_from
  further within =
      here
      ∙ ap (λ (b : Bool). cond b (drop front pairs)
      (rest_from (bytes + bytes_beside before pair) pair
      (cond (nat_lt 2048 (bytes + bytes_beside before pair)) (drop front pairs) (drop (suc i) pairs)) (drop (suc i) pairs)))
      (le-ltb 4096 (bytes + bytes_beside before pair) within)

  dropped : (b : Bool) → cond b (drop front pairs) (drop (suc i) pairs) ≡ drop (cond b front (i + 1)) pairs
  dropped true = refl
  dropped false = let e : suc i ≡ i + 1 = omega arith in ap (λ (n : ℕ). drop n pairs) e

  pub goes_on : (later kept : ℕ) → later ≡ bytes + bytes_beside before pair → later ≤ 4096 → kept ≡ cond (nat_lt 2048 later) front (i + 1)
      → (d : Pair) → 0 < length pairs → rest_of pairs ≡ rest_from later (get_or pairs (i + 1 - 1) d) (drop kept pairs) (drop (i + 1) pairs)
  goes_on later kept is within kept_is d some =
      let e : i ≡ i + 1 - 1 = omega arith in
      let f : suc i ≡ i + 1 = omega arith in
      let last : pair ≡ get_or pairs (i + 1 - 1) d =
      pair_is ∙ get_or_default pairs i pair d there ∙ ap (λ (n : ℕ). get_or pairs n d) e
      in
      further (omega (arith, is, within))
      ∙ ap (λ (n : ℕ). rest_from n pair (cond (nat_lt 2048 n) (drop front pairs) (drop (suc i) pairs)) (drop (suc i) pairs)) (sym is)
      ∙ ap (λ (cut : List Pair). rest_from later pair cut (drop (suc i) pairs)) (dropped (nat_lt 2048 later) ∙ ap (λ (n : ℕ). drop n pairs) (sym kept_is))
      ∙ ap (λ (n : ℕ). rest_from later pair (drop kept pairs) (drop n pairs)) f
      ∙ ap (λ (q : Pair). rest_from later q (drop kept pairs) (drop (i + 1) pairs)) last

pub all_fit : (pairs : List Pair) (i bytes front : ℕ) → length pairs ≤ i → (d : Pair)
    → (0 < length pairs → rest_of pairs ≡ rest_from bytes (get_or pairs (i - 1) d) (drop front pairs) (drop i pairs))
    → drop (length pairs) pairs ≡ rest_of pairs
unfolding rest_from rest_of
all_fit [] i bytes front past d so_far = refl
all_fit (p ∷ pairs) i bytes front past d so_far =
    drop_all (length (p ∷ pairs)) (p ∷ pairs) (omega arith)
    ∙ sym (so_far (omega arith)
    ∙ ap (rest_from bytes (get_or (p ∷ pairs) (i - 1) d) (drop front (p ∷ pairs))) (drop_all i (p ∷ pairs) past))

pub kept_within : (b : Bool) (front i kept : ℕ) → kept ≡ cond b front (i + 1) → 0 < front → front ≤ i → (0 < kept) × (kept ≤ i + 1)
kept_within true front i kept is some up_to = (omega (arith, is, some), omega (arith, is, up_to))
kept_within false front i kept is some up_to = (omega (arith, is), omega (arith, is))

-- ---- all pages

pub take_more : (count : ℕ) (pairs rest behind : List Pair) → 0 < length rest → behind ≡ rest_of rest
    → ((k : ℕ) → TakePages k rest → TakePages (count + k) (rest_of pairs)) → (k : ℕ) → TakePages k behind → TakePages (count + 1 + k) (rest_of pairs)
take_more count pairs rest behind some is so_far k takes =
    let e : count + suc k ≡ count + 1 + k = omega arith in
    subst (λ (n : ℕ). TakePages n (rest_of pairs)) e (so_far (suc k) (some, subst (TakePages k) is takes))

pub take_first : (pairs rest : List Pair) → rest ≡ rest_of pairs → (k : ℕ) → TakePages k rest → TakePages (0 + k) (rest_of pairs)
take_first pairs rest is k takes =
    let e : k ≡ 0 + k = omega arith in
    subst (λ (n : ℕ). TakePages n (rest_of pairs)) e (subst (TakePages k) is takes)

pub take_all_of : (count : ℕ) (pairs rest : List Pair) → length rest ≤ 0 → ((k : ℕ) → TakePages k rest → TakePages (count + k) (rest_of pairs))
    → TakePages count (rest_of pairs)
take_all_of count pairs [] none so_far =
    let e : count + 0 ≡ count = omega arith in subst (λ (n : ℕ). TakePages n (rest_of pairs)) e (so_far 0 refl)
take_all_of count pairs (p ∷ rest) none so_far = absurd (omega arith)

-- ---- numbers for new pages

pub number_there : (next : ℕ) (rest : List Pair) → 0 < length rest → HasNumbers next rest → next < most_term_pages
number_there next rest some (zero, none, few) = absurd (omega (arith, some, ap (λ (ps : List Pair). length ps) none))
number_there next rest some (suc count, take, few) = omega (arith, few)

pub numbers_behind : (next later : ℕ) (rest behind : List Pair) → 0 < length rest → behind ≡ rest_of rest → later ≡ next + 1 → HasNumbers next rest
    → HasNumbers later behind
numbers_behind next later rest behind some is later_is (zero, none, few) = absurd (omega (arith, some, ap (λ (ps : List Pair). length ps) none))
numbers_behind next later rest behind some is later_is (suc count, take, few) =
    (count, subst (TakePages count) (sym is) take.1, omega (arith, few, later_is))
