-- How many bytes varints and gap lists take at most.
use Rattle.std.proofs.Common.{ℕ, ◌+◌, ◌-◌, ◌*◌, ◌/◌, ◌<◌, ◌≤◌, List, [], ◌∷◌, length, arith, ap, ⊎_elim}
use Rattle.std.proofs.lemmas.Bool.{cases_lt}
use Rattle.std.proofs.lemmas.List.{length-append}
use Rattle.ax_gap.specs.Varint.{varint}
use Rattle.ax_gap.specs.Gaps.{gaps, gaps_from, IsRisingList}
use Rattle.ax_gap.proofs.Rising.{RisesFrom, rises, length_rises}
use Rattle.ax_gap.proofs.VarintLaws.{varint-small, varint-large}

one_group : (n : ℕ) → n < 128 → length (varint n) ≤ 1
one_group n h = omega (arith, ap (λ (bs : List ℕ). length bs) (varint-small n h))

one_group_more : (n k : ℕ) → length (varint (n / 128)) ≤ k → length (varint n) ≤ k + 1
one_group_more n k was =
    ⊎_elim
    (λ (small : n < 128). omega (arith, ap (λ (bs : List ℕ). length bs) (varint-small n small)))
    (λ (large : 128 ≤ n). omega (arith, ap (λ (bs : List ℕ). length bs) (varint-large n large)))
    (cases_lt n 128)

two_groups : (n : ℕ) → n < 16384 → length (varint n) ≤ 2
two_groups n h = one_group_more n 1 (one_group (n / 128) (omega arith))

three_groups : (n : ℕ) → n < 2097152 → length (varint n) ≤ 3
three_groups n h = one_group_more n 2 (two_groups (n / 128) (omega arith))

four_groups : (n : ℕ) → n < 268435456 → length (varint n) ≤ 4
four_groups n h = one_group_more n 3 (three_groups (n / 128) (omega arith))

pub five_groups : (n : ℕ) → n < 34359738368 → length (varint n) ≤ 5
five_groups n h = one_group_more n 4 (four_groups (n / 128) (omega arith))

gaps_within : (list : List ℕ) (least : ℕ) → RisesFrom least list → length (gaps_from least list) ≤ 5 * length list
unfolding gaps_from
gaps_within [] least up = omega arith
gaps_within (n ∷ list) least up =
    let first : length (varint (n - least)) ≤ 5 = five_groups (n - least) (omega (arith, up.1)) in
    let later : length (gaps_from (n + 1) list) ≤ 5 * length list = gaps_within list (n + 1) up.2 in
    omega (arith, length-append (varint (n - least)) (gaps_from (n + 1) list))

pub list_within : (list : List ℕ) → IsRisingList list → length (gaps list) ≤ 5 + 5 * length list
unfolding gaps
list_within list h =
    let up : RisesFrom 0 list = rises list h in
    let count : length (varint (length list)) ≤ 5 = five_groups (length list) (omega (arith, length_rises 0 list (omega arith) up)) in
    omega (arith, length-append (varint (length list)) (gaps_from 0 list), gaps_within list 0 up)
