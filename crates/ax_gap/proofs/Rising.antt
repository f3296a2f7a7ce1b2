-- Lists that rise strictly, by recursion: no number is below `least`, and each later one is above
-- the one before.
use Rattle.std.proofs.Common.{◌≡◌, ℕ, ◌+◌, ◌<◌, ◌≤◌, List, [], ◌∷◌, zero, suc, length, get_or, arith, refl, All}
use Rattle.std.specs.List.Sorted.{IsStrictlyIncreasing}
use Rattle.std.proofs.lemmas.List.Elements.{All-head, All-tail, All-nil, All-cons}
use Rattle.ax_gap.specs.Gaps.{IsRisingList}

abbrev pub RisesFrom : ℕ → List ℕ → Type 0
RisesFrom least [] = Unit {0}
RisesFrom least (n ∷ list) = (least ≤ n) × (n < 4294967296) × RisesFrom (n + 1) list

get_or-next : (x : ℕ) (xs : List ℕ) (j k : ℕ) → j ≡ suc k → get_or (x ∷ xs) j 0 ≡ get_or xs k 0
get_or-next x xs j k e = rw e refl

increasing-tail : (n : ℕ) (list : List ℕ) → IsStrictlyIncreasing (n ∷ list) → IsStrictlyIncreasing list
increasing-tail n list up k h =
    let above : get_or list k 0 < get_or (n ∷ list) (suc k + 1) 0 = up (suc k) (omega arith) in
    omega (arith, get_or-next n list (suc k + 1) (k + 1) (omega arith))

increasing-head : (n m : ℕ) (list : List ℕ) → IsStrictlyIncreasing (n ∷ m ∷ list) → n < m
increasing-head n m list up = up 0 (omega arith)

increasing-cons : (n m : ℕ) (list : List ℕ) → n < m → IsStrictlyIncreasing (m ∷ list) → IsStrictlyIncreasing (n ∷ m ∷ list)
increasing-cons n m list h up zero l = h
increasing-cons n m list h up (suc k) l =
    let above : get_or (m ∷ list) k 0 < get_or (m ∷ list) (k + 1) 0 = up k (omega arith) in
    omega (arith, get_or-next n (m ∷ list) (suc k + 1) (k + 1) (omega arith))

rises_up : (least : ℕ) (list : List ℕ) → IsStrictlyIncreasing list → All (λ n. n < 4294967296) list → (0 < length list → least ≤ get_or list 0 0)
    → RisesFrom least list
rises_up least [] up all low = tt
rises_up least (n ∷ []) up all low = (low (omega arith), All-head (λ n. n < 4294967296) n [] all, tt)
rises_up least (n ∷ m ∷ list) up all low = (
  low (omega arith),
  All-head (λ n. n < 4294967296) n (m ∷ list) all,
  rises_up (n + 1) (m ∷ list) (increasing-tail n (m ∷ list) up) (All-tail (λ n. n < 4294967296) n (m ∷ list) all)
      (λ _. let h : n < m = increasing-head n m list up in omega arith),
)

pub rises : (list : List ℕ) → IsRisingList list → RisesFrom 0 list
rises list h = rises_up 0 list h.rising h.numbers (λ _. omega arith)

increasing_from : (least : ℕ) (list : List ℕ) → RisesFrom least list → IsStrictlyIncreasing list
increasing_from least [] h = λ k l. absurd (omega arith)
increasing_from least (n ∷ []) h = λ k l. absurd (omega arith)
increasing_from least (n ∷ m ∷ list) h = increasing-cons n m list (omega (arith, h.2.0)) (increasing_from (n + 1) (m ∷ list) h.2)

numbers_from : (least : ℕ) (list : List ℕ) → RisesFrom least list → All (λ n. n < 4294967296) list
numbers_from least [] h = All-nil (λ n. n < 4294967296)
numbers_from least (n ∷ list) h = All-cons (λ n. n < 4294967296) n list h.1 (numbers_from (n + 1) list h.2)

pub rising_list : (least : ℕ) (list : List ℕ) → RisesFrom least list → IsRisingList list
rising_list least list h = record { rising = increasing_from least list h; numbers = numbers_from least list h }

-- there are no more numbers than fit above `least`
pub length_rises : (least : ℕ) (list : List ℕ) → least ≤ 4294967296 → RisesFrom least list → least + length list ≤ 4294967296
length_rises least [] l h = omega arith
length_rises least (n ∷ list) l h = let e : n + 1 + length list ≤ 4294967296 = length_rises (n + 1) list (omega (arith, h.1)) h.2 in omega (arith, h.0)
