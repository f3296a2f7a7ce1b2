-- The postings of rising pairs: the numbers of each rise.
use Rattle.std.proofs.Common.{◌≡◌, ℕ, ◌+◌, ◌<◌, ◌≤◌, List, [], ◌∷◌, ◌++◌, length, get_or, arith, refl, ap, ◌∙◌, sym, true, false, cond, ⊎_elim, zero, suc}
use Rattle.std.proofs.lemmas.Bool.{cases_lt}
use Rattle.std.specs.Cmp.{nat_cmp_is}
use Rattle.std.proofs.Math.ListN.{get_or-append}
use Rattle.std.proofs.Math.Seq.{get_or-append_seam}
use Rattle.std.proofs.lemmas.List.{length-append}
use Rattle.std.proofs.lemmas.Slice.Eq.{bytes_eq-Decides}
use Rattle.std.specs.List.Sorted.{IsStrictlyIncreasing}
use Rattle.std.specs.Str.{bytes_eq}
use Rattle.std.specs.declared.cmp.Ordering.TheVariants.{Less, Equal, Greater}
use Rattle.std.specs.Ordering.{nat_cmp}
use Rattle.std.specs.Cmp.Lexicographic.{slice_cmp}
use Rattle.ax_pair.specs.declared.pair.Pair.{Pair}
use Rattle.ax_pair.specs.Order.{pair_cmp, Rise, RiseAfter}
use Rattle.ax_leaf.specs.Pairs.{Posting, postings_from, postings_of}

-- each posting has a number, and its numbers rise
abbrev pub AreFit : List Posting → Type 0
AreFit [] = Unit {0}
AreFit (posting ∷ postings) = IsStrictlyIncreasing posting.numbers × (0 < length posting.numbers) × AreFit postings

pub increasing_with : (ns : List ℕ) (n : ℕ) → IsStrictlyIncreasing ns → ((k : ℕ) → k < length ns → get_or ns k 0 < n) → IsStrictlyIncreasing (ns ++ n ∷ [])
increasing_with ns n up below k h =
    let whole : length (ns ++ n ∷ []) ≡ length ns + 1 = length-append ns (n ∷ []) in
    ⊎_elim
    (λ (l : k + 1 < length ns). omega (arith, up k l, get_or-append ns (n ∷ []) 0 k (omega arith), get_or-append ns (n ∷ []) 0 (k + 1) l))
    (λ (l : length ns ≤ k + 1).
    let at : k + 1 ≡ length ns = omega arith in
    let last : get_or (ns ++ n ∷ []) (k + 1) 0 ≡ n = ap (λ (i : ℕ). get_or (ns ++ n ∷ []) i 0) at ∙ get_or-append_seam ns n [] 0 in
    omega (arith, below k (omega arith), last, get_or-append ns (n ∷ []) 0 k (omega arith)))
    (cases_lt (k + 1) (length ns))

pub below_with : (ns : List ℕ) (m n : ℕ) → ((k : ℕ) → k < length ns → get_or ns k 0 ≤ m) → m < n → (k : ℕ) → k < length (ns ++ n ∷ [])
    → get_or (ns ++ n ∷ []) k 0 ≤ n
below_with ns m n below h k l =
    let whole : length (ns ++ n ∷ []) ≡ length ns + 1 = length-append ns (n ∷ []) in
    ⊎_elim
    (λ (i : k < length ns). omega (arith, below k i, get_or-append ns (n ∷ []) 0 k i))
    (λ (i : length ns ≤ k).
    let at : k ≡ length ns = omega arith in
    omega (arith, ap (λ (i : ℕ). get_or (ns ++ n ∷ []) i 0) at ∙ get_or-append_seam ns n [] 0))
    (cases_lt k (length ns))

pub same_cmp : (xs : List ℕ) → slice_cmp nat_cmp xs xs ≡ Equal
same_cmp [] = refl
same_cmp (x ∷ xs) = rw (sym (nat_cmp_is x x Equal refl)) (same_cmp xs)

-- a number that compares as less is below
pub below_from : (m n : ℕ) → nat_cmp m n ≡ Less → m < n
below_from m n h =
    ⊎_elim
    (λ (l : m < n). l)
    (λ (l : n ≤ m).
    ⊎_elim
    (λ (k : n < m). let g : Greater ≡ nat_cmp m n = nat_cmp_is m n Greater k in absurd (cc))
    (λ (k : m ≤ n). let g : Equal ≡ nat_cmp m n = nat_cmp_is m n Equal (omega arith) in absurd (cc))
    (cases_lt n m))
    (cases_lt m n)

pub numbers_rise : (p q : Pair) → q.term ≡ p.term → pair_cmp p q ≡ Less → p.number < q.number
numbers_rise p q e h =
    let terms : slice_cmp nat_cmp p.term q.term ≡ Equal = ap (slice_cmp nat_cmp p.term) e ∙ same_cmp p.term in
    let numbers : nat_cmp p.number q.number ≡ Less = rw terms at h in
    below_from p.number q.number numbers

pub one_increases : (n : ℕ) → IsStrictlyIncreasing (n ∷ [])
one_increases n k h = absurd (omega arith)

pub one_below : (n : ℕ) (k : ℕ) → k < length (n ∷ []) → get_or (n ∷ []) k 0 ≤ n
one_below n zero h = omega arith
one_below n (suc k) h = absurd (omega arith)

fit_from : (term ns : List ℕ) (p : Pair) (pairs : List Pair) → IsStrictlyIncreasing ns → 0 < length ns → ((k : ℕ) → k < length ns → get_or ns k 0 ≤ p.number)
    → p.term ≡ term → RiseAfter p pairs → AreFit (postings_from term ns pairs)
unfolding postings_from
fit_from term ns p [] up some below e rise = (up, some, tt)
fit_from term ns p (q ∷ pairs) up some below e rise =
    elim (bytes_eq q.term term) as
    (λ b. bytes_eq q.term term ≡ b → AreFit (cond b (postings_from term (ns ++ q.number ∷ []) pairs)
    (record { term = term; numbers = ns } ∷ postings_from q.term (q.number ∷ []) pairs))) [
      | true ↦ λ h.
          let same : q.term ≡ term = (bytes_eq-Decides q.term term).0 h in
          let rises : p.number < q.number = numbers_rise p q (same ∙ sym e) rise.0 in
          fit_from term (ns ++ q.number ∷ []) q pairs (increasing_with ns q.number up (λ k l. omega (arith, below k l)))
          (omega (arith, length-append ns (q.number ∷ []))) (below_with ns p.number q.number below rises) same rise.1
      | false ↦ λ h. (up, some, fit_from q.term (q.number ∷ []) q pairs (one_increases q.number) (omega arith) (one_below q.number) refl rise.1)
    ] refl

pub fit : (pairs : List Pair) → Rise pairs → AreFit (postings_of pairs)
unfolding postings_of
fit [] rise = tt
fit (p ∷ pairs) rise = fit_from p.term (p.number ∷ []) p pairs (one_increases p.number) (omega arith) (one_below p.number) refl rise
