-- The numbers of the documents rise, whatever write is made, and so stand in strict order.
use Rattle.std.proofs.Common.{◌≡◌, ℕ, ◌+◌, ◌<◌, ◌≤◌, List, [], ◌∷◌, ◌++◌, map, true, false, cond, refl, sym, subst, arith}
use Rattle.std.specs.Cmp.{nat_cmp_is}
use Rattle.std.specs.List.{AllByRecursion}
use Rattle.std.specs.List.Sorted.{IsStrictlySortedBy}
use Rattle.std.specs.Ordering.{nat_cmp}
use Rattle.std.specs.declared.cmp.Ordering.TheVariants.{Less}
use Rattle.ax_tree.specs.declared.tree.Tree.{Tree}
use Rattle.ax_container.specs.Container.{Entry, NumbersRise, has_id}
use Rattle.ax_container.specs.Writes.{rewritten, with_tree}
use Rattle.ax_policy.specs.declared.policy.Policy.{Policy}

all_above : (n before next : ℕ) (entries : List Entry) → n ≤ before → NumbersRise before entries next
    → AllByRecursion (λ m. nat_cmp n m ≡ Less) (map (λ entry. entry.number) entries)
all_above n before next [] below rise = tt
all_above n before next (entry ∷ entries) below rise =
    let less : n < entry.number = omega (arith, below, rise.0) in
    let later : n ≤ entry.number = omega (arith, less) in (
      sym (nat_cmp_is n entry.number Less less),
      all_above n entry.number next entries later rise.1,
    )

pub in_order : (before next : ℕ) (entries : List Entry) → NumbersRise before entries next
    → IsStrictlySortedBy nat_cmp (map (λ entry. entry.number) entries)
unfolding IsStrictlySortedBy
in_order before next [] rise = tt
in_order before next (entry ∷ entries) rise =
    let same : entry.number ≤ entry.number = omega arith in (
      all_above entry.number entry.number next entries same rise.1,
      in_order entry.number next entries rise.1,
    )

-- the numbers of the pairs that an answer is made from are those of the documents
pub numbers_of_pairs : (entries : List Entry)
    → map (λ (pair : ℕ × Tree). pair.0) (map (λ entry. (entry.number, entry.tree)) entries)
    ≡ map (λ entry. entry.number) entries
numbers_of_pairs [] = refl
numbers_of_pairs (entry ∷ entries) = λ i. entry.number ∷ numbers_of_pairs entries i

number_kept : (id : List ℕ) (tree : Tree) (policy : Policy) (entry : Entry)
    → (with_tree id tree policy entry).number ≡ entry.number
number_kept id tree policy entry =
    elim (has_id id entry) as
    (λ b. (cond b (rewritten tree policy entry) entry).number
    ≡ entry.number)
    [ true ↦ refl | false ↦ refl ]

pub rise_replaced : (id : List ℕ) (tree : Tree) (policy : Policy) (before next : ℕ) (entries : List Entry)
    → NumbersRise before entries next → NumbersRise before (map (with_tree id tree policy) entries) next
rise_replaced id tree policy before next [] rise = rise
rise_replaced id tree policy before next (entry ∷ entries) rise =
    subst (λ n. (before < n) × NumbersRise n (map (with_tree id tree policy) entries) next)
    (sym (number_kept id tree policy entry))
    (rise.0, rise_replaced id tree policy entry.number next entries rise.1)

pub rise_created : (before next : ℕ) (entries : List Entry) (entry : Entry) → entry.number ≡ next
    → NumbersRise before entries next → NumbersRise before (entries ++ entry ∷ []) (next + 1)
rise_created before next [] entry same rise = (omega (arith, same, rise), omega (arith, same))
rise_created before next (first ∷ entries) entry same rise =
    (rise.0, rise_created first.number next entries entry same rise.1)
