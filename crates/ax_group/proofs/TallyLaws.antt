-- The value that a tally comes to is the aggregate of the values that it was given.
use Rattle.std.proofs.Common.{◌≡◌, ℕ, suc, ℤ, pos, ◌+ℤ◌, ◌+◌, List, [], ◌∷◌, length, filter, Bool, true, false, cond, ◌||◌, Option, Some, None, option_and_then, nat_le, nat_lt, refl, sym, ap, ◌∙◌, arith}
use Rattle.std.proofs.lemmas.Int.{ints}
use Rattle.std.specs.List.{list_any}
use Rattle.ax_tree.specs.declared.tree.Tree as tree
use Rattle.ax_tree.specs.declared.tree.Tree.{Tree}
use Rattle.ax_mean.specs.declared.operator.Aggregate.{Aggregate}
use Rattle.ax_mean.specs.declared.operator.Aggregate.TheVariants as aggregate
use Rattle.ax_mean.specs.declared.value.Value.{Value}
use Rattle.ax_mean.specs.declared.value.Value.TheVariants.{Undefined, Defined}
use Rattle.ax_mean.specs.Arithmetic.{in_64_bits}
use Rattle.ax_mean.specs.Meaning.{along, chain}
use Rattle.std.specs.Ordering.{is_lt}
use Rattle.ax_mean.specs.ValueOrder.{value_cmp}
use Rattle.ax_mean.specs.Values.{is_defined, number_of, of_number}
use Rattle.ax_group.specs.declared.tally.Tally.TheVariants as tally
use Rattle.ax_group.specs.Tallies.{one_more, of_sum, sum_more, least_with, greatest_with, tally_from, tally_of, value_of}
use Rattle.ax_result.specs.Totals.{greatest_number, counted, and_number, numbers_of, exact_sum, summed, lesser, greater, is_composed, aggregate_of}

undefined_stays : (vs : List Value) → tally_from tally.Undefined vs ≡ tally.Undefined
undefined_stays [] = refl
undefined_stays (Undefined ∷ vs) = undefined_stays vs
undefined_stays (Defined t ∷ vs) = undefined_stays vs

-- ---- COUNT

counted_more : (n m : ℕ) → counted (one_more n + m) ≡ counted (n + suc m)
counted_more n m = by (nat_le n greatest_number) refl
  where
    by : (b : Bool) → nat_le n greatest_number ≡ b
        → counted (cond b (n + 1) n + m) ≡ counted (n + suc m)
    by true e = ap counted (omega arith)
    by false e =
        let low : nat_le (n + m) greatest_number ≡ false = grind (arith) in
        let high : nat_le (n + suc m) greatest_number ≡ false = grind (arith) in
        ap (λ b. cond b (Defined (tree.Number (pos (n + m)))) Undefined) low
        ∙ sym (ap (λ b. cond b (Defined (tree.Number (pos (n + suc m)))) Undefined) high)

count_from : (n : ℕ) (vs : List Value)
    → value_of (tally_from (tally.Count n) vs) ≡ counted (n + length (filter is_defined vs))
count_from n [] = ap counted (omega arith)
count_from n (Undefined ∷ vs) = count_from n vs
count_from n (Defined t ∷ vs) =
    count_from (one_more n) vs ∙ counted_more n (length (filter is_defined vs))

-- ---- SUM

-- the sum of a number, that was summed of so many, and of more numbers
abbrev sum_beside : ℤ → Option (List ℤ) → Value
sum_beside z numbers =
    of_number (option_and_then (λ ns. in_64_bits (z +ℤ exact_sum ns)) numbers)

abbrev summed_from : ℕ → ℤ → List Value → Value
summed_from n z vs =
    cond (nat_le (n + length vs) greatest_number) (sum_beside z (numbers_of vs)) Undefined

either_undefined : (b : Bool) → cond b Undefined Undefined ≡ Undefined
either_undefined true = refl
either_undefined false = refl

no_numbers : (n : ℕ) (z : ℤ) (t : Tree) (vs : List Value) → number_of (Defined t) ≡ None
    → Undefined ≡ summed_from n z (Defined t ∷ vs)
no_numbers n z t vs e =
    sym (either_undefined (nat_le (n + suc (length vs)) greatest_number))
    ∙ ap (λ x. cond (nat_le (n + suc (length vs)) greatest_number)
    (sum_beside z (and_number x (numbers_of vs))) Undefined) (sym e)

beside_more : (z x : ℤ) (numbers : Option (List ℤ))
    → sum_beside (z +ℤ x) numbers ≡ sum_beside z (and_number (Some x) numbers)
beside_more z x None = refl
beside_more z x (Some ns) =
    ap (λ s. of_number (in_64_bits s))
    (let e : (z +ℤ x) +ℤ exact_sum ns ≡ z +ℤ (x +ℤ exact_sum ns) = omega (arith, ints) in e)

too_many : (n : ℕ) (z : ℤ) (t : Tree) (vs : List Value) → nat_lt n greatest_number ≡ false
    → Undefined ≡ summed_from n z (Defined t ∷ vs)
too_many n z t vs e =
    let many : nat_le (n + suc (length vs)) greatest_number ≡ false = grind (arith) in
    sym (ap (λ b. cond b (sum_beside z (numbers_of (Defined t ∷ vs))) Undefined) many)

sum_step : (n : ℕ) (z x : ℤ) (t : Tree) (vs : List Value) → number_of (Defined t) ≡ Some x
    → summed_from (n + 1) (z +ℤ x) vs ≡ summed_from n z (Defined t ∷ vs)
sum_step n z x t vs e =
    ap (λ k. cond (nat_le k greatest_number) (sum_beside (z +ℤ x) (numbers_of vs)) Undefined)
    (let k : n + 1 + length vs ≡ n + suc (length vs) = omega arith in k)
    ∙ ap (λ v. cond (nat_le (n + suc (length vs)) greatest_number) v Undefined)
    (beside_more z x (numbers_of vs)
    ∙ ap (λ o. sum_beside z (and_number o (numbers_of vs))) (sym e))

sum_end : (n : ℕ) (z : ℤ) → nat_le n greatest_number ≡ true
    → of_number (in_64_bits z) ≡ summed_from n z []
sum_end n z e =
    ap (λ s. of_number (in_64_bits s)) (let k : z ≡ z +ℤ pos 0 = omega (arith, ints) in k)
    ∙ sym (ap (λ b. cond b (sum_beside z (Some [])) Undefined)
    (ap (λ k. nat_le k greatest_number) (let k : n + 0 ≡ n = omega arith in k) ∙ e))

-- the numbers that come after, whatever the sum is
abbrev SumsOn : List Value → Type 0
SumsOn vs = (n : ℕ) (z : ℤ) → nat_le n greatest_number ≡ true
    → value_of (tally_from (tally.Sum (n, z)) vs) ≡ summed_from n z (filter is_defined vs)

sum_on : (n : ℕ) (z : ℤ) (t : Tree) (vs : List Value) → SumsOn vs
    → value_of (tally_from (sum_more (n, z) (number_of (Defined t))) vs)
    ≡ summed_from n z (Defined t ∷ filter is_defined vs)
sum_on n z t vs rest = by (number_of (Defined t)) refl
  where
    fits : (b : Bool) (x : ℤ) → nat_lt n greatest_number ≡ b → number_of (Defined t) ≡ Some x
        → value_of (tally_from (of_sum (cond b (Some (n + 1, z +ℤ x)) None)) vs)
        ≡ summed_from n z (Defined t ∷ filter is_defined vs)
    fits true x h k =
        rest (n + 1) (z +ℤ x) (let m : nat_le (n + 1) greatest_number ≡ true = grind (arith) in m)
        ∙ sum_step n z x t (filter is_defined vs) k
    fits false x h k =
        ap value_of (undefined_stays vs) ∙ too_many n z t (filter is_defined vs) h

    by : (o : Option ℤ) → number_of (Defined t) ≡ o
        → value_of (tally_from (sum_more (n, z) o) vs)
        ≡ summed_from n z (Defined t ∷ filter is_defined vs)
    by None k = ap value_of (undefined_stays vs) ∙ no_numbers n z t (filter is_defined vs) k
    by (Some x) k = fits (nat_lt n greatest_number) x refl k

sum_from : (vs : List Value) → SumsOn vs
sum_from [] n z e = sum_end n z e
sum_from (Undefined ∷ vs) n z e = sum_from vs n z e
sum_from (Defined t ∷ vs) n z e = sum_on n z t vs (sum_from vs)

zero_before : (z : ℤ) → pos 0 +ℤ z ≡ z
zero_before z = omega (arith, ints)

sum_is : (vs : List Value) → summed_from 0 (pos 0) vs ≡ summed vs
sum_is vs =
    ap (λ k. cond (nat_le k greatest_number) (sum_beside (pos 0) (numbers_of vs)) Undefined)
    (let k : 0 + length vs ≡ length vs = omega arith in k)
    ∙ by (numbers_of vs)
  where
    by : (o : Option (List ℤ)) → cond (nat_le (length vs) greatest_number) (sum_beside (pos 0) o) Undefined
        ≡ cond (nat_le (length vs) greatest_number)
        (of_number (option_and_then (λ ns. in_64_bits (exact_sum ns)) o)) Undefined
    by None = refl
    by (Some ns) =
        ap (λ s. cond (nat_le (length vs) greatest_number) (of_number (in_64_bits s)) Undefined)
        (zero_before (exact_sum ns))

-- ---- MIN and MAX

-- the outermost of a value, undefined where there was none, and of more
abbrev chain_from : (Value → Value → Value) → Value → List Value → Value
chain_from f Undefined vs = chain f vs
chain_from f (Defined b) vs = along f (Defined b) vs

abbrev outermost_from : (Value → Value → Value) → Value → List Value → Value
outermost_from f best vs = cond (list_any is_composed vs) Undefined (chain_from f best vs)

defined_lesser : (b t : Tree) (vs : List Value)
    → chain_from lesser (lesser (Defined b) (Defined t)) vs ≡ along lesser (lesser (Defined b) (Defined t)) vs
defined_lesser b t vs = by (is_lt (value_cmp (Defined t) (Defined b)))
  where
    by : (c : Bool) → chain_from lesser (cond c (Defined t) (Defined b)) vs
        ≡ along lesser (cond c (Defined t) (Defined b)) vs
    by true = refl
    by false = refl

defined_greater : (b t : Tree) (vs : List Value)
    → chain_from greater (greater (Defined b) (Defined t)) vs ≡ along greater (greater (Defined b) (Defined t)) vs
defined_greater b t vs = by (is_lt (value_cmp (Defined b) (Defined t)))
  where
    by : (c : Bool) → chain_from greater (cond c (Defined t) (Defined b)) vs
        ≡ along greater (cond c (Defined t) (Defined b)) vs
    by true = refl
    by false = refl

least_chain : (best : Value) (t : Tree) (vs : List Value)
    → chain_from lesser (least_with best (Defined t)) vs ≡ chain_from lesser best (Defined t ∷ vs)
least_chain Undefined t vs = refl
least_chain (Defined b) t vs = defined_lesser b t vs

greatest_chain : (best : Value) (t : Tree) (vs : List Value)
    → chain_from greater (greatest_with best (Defined t)) vs
    ≡ chain_from greater best (Defined t ∷ vs)
greatest_chain Undefined t vs = refl
greatest_chain (Defined b) t vs = defined_greater b t vs

at_end : (f : Value → Value → Value) (best : Value) → best ≡ outermost_from f best []
at_end f Undefined = refl
at_end f (Defined b) = refl

least_from : (best : Value) (vs : List Value)
    → value_of (tally_from (tally.Least best) vs)
    ≡ outermost_from lesser best (filter is_defined vs)
least_from best [] = at_end lesser best
least_from best (Undefined ∷ vs) = least_from best vs
least_from best (Defined t ∷ vs) = by (is_composed (Defined t)) (least_from (least_with best (Defined t)) vs)
  where
    by : (b : Bool) → value_of (tally_from (tally.Least (least_with best (Defined t))) vs)
        ≡ outermost_from lesser (least_with best (Defined t)) (filter is_defined vs)
        → value_of (tally_from
        (cond b tally.Undefined (tally.Least (least_with best (Defined t)))) vs)
        ≡ cond (b || list_any is_composed (filter is_defined vs)) Undefined
        (chain_from lesser best (Defined t ∷ filter is_defined vs))
    by true rest = ap value_of (undefined_stays vs)
    by false rest =
        rest ∙ ap (cond (list_any is_composed (filter is_defined vs)) Undefined)
        (least_chain best t (filter is_defined vs))

greatest_from : (best : Value) (vs : List Value)
    → value_of (tally_from (tally.Greatest best) vs)
    ≡ outermost_from greater best (filter is_defined vs)
greatest_from best [] = at_end greater best
greatest_from best (Undefined ∷ vs) = greatest_from best vs
greatest_from best (Defined t ∷ vs) = by (is_composed (Defined t)) (greatest_from (greatest_with best (Defined t)) vs)
  where
    by : (b : Bool) → value_of (tally_from (tally.Greatest (greatest_with best (Defined t))) vs)
        ≡ outermost_from greater (greatest_with best (Defined t)) (filter is_defined vs)
        → value_of (tally_from
        (cond b tally.Undefined (tally.Greatest (greatest_with best (Defined t)))) vs)
        ≡ cond (b || list_any is_composed (filter is_defined vs)) Undefined
        (chain_from greater best (Defined t ∷ filter is_defined vs))
    by true rest = ap value_of (undefined_stays vs)
    by false rest =
        rest ∙ ap (cond (list_any is_composed (filter is_defined vs)) Undefined)
        (greatest_chain best t (filter is_defined vs))

-- ---- all

pub tally_is_aggregate : (which : Aggregate) (vs : List Value)
    → value_of (tally_of which vs) ≡ aggregate_of which vs
tally_is_aggregate aggregate.Count vs =
    count_from 0 vs
    ∙ ap counted
    (let k : 0 + length (filter is_defined vs) ≡ length (filter is_defined vs) = omega arith in k)
tally_is_aggregate aggregate.Sum vs = sum_from vs 0 (pos 0) refl ∙ sum_is (filter is_defined vs)
tally_is_aggregate aggregate.Min vs = least_from Undefined vs
tally_is_aggregate aggregate.Max vs = greatest_from Undefined vs
