-- What a comparison that is true tells of its operands, and where their terms are.
use Rattle.std.proofs.Common.{◌≡◌, ℕ, ℤ, pos, negsuc, ◌==◌, List, Bool, true, false, ◌&&◌, cond, take, nat_le, Some, None, refl, sym, ap, ◌∙◌, subst, arith}
use Rattle.std.proofs.lemmas.Bool.{false≢true, and_parts, and_from, eqb-true, eq-eqb}
use Rattle.std.proofs.lemmas.Bool.Decides.{nat_tests}
use Rattle.std.proofs.lemmas.Cmp.{then_total, on_total, nat_cmp_total, int_cmp_total, nat_list_cmp_total}
use Rattle.std.specs.Cmp.{IsTotalOrder}
use Rattle.std.specs.declared.cmp.Ordering.{Ordering}
use Rattle.std.specs.declared.cmp.Ordering.TheVariants.{Less, Equal, Greater}
use Rattle.std.specs.Ordering.{ordering_reverse, int_cmp, is_le, is_lt, is_ge, is_gt}
use Rattle.ax_tree.specs.WellFormed.{is_of_64_bits}
use Rattle.ax_tree.specs.declared.tree.Tree as tree
use Rattle.ax_tree.specs.declared.tree.Tree.{Tree, out-Tree}
use Rattle.ax_tree.specs.declared.tree.Tree.TheOpen.{Tree-F}
use Rattle.ax_tree.specs.declared.tree.Tree.TheViews.{roll-Tree, roll-out-Tree}
use Rattle.ax_tree.specs.declared.tree.Tree.TheVariants.{rolls-Number, rolls-Text}
use Rattle.ax_mean.specs.declared.value.Value.{Value}
use Rattle.ax_mean.specs.declared.value.Value.TheVariants.{Undefined, Defined}
use Rattle.ax_mean.specs.Comparison.{comparison, equality, is_same_value, is_scalar}
use Rattle.ax_mean.specs.Meaning.{is_yes}
use Rattle.ax_mean.specs.ValueOrder.{rank, number_key, bytes_key, value_cmp}
use Rattle.ax_mean.specs.Values.{are_of_one_kind, kind, kind_level, of_truth, truth_of}
use Rattle.ax_mean.proofs.SameTrees.{same_trees}
use Rattle.ax_term.specs.CutValues.{cut_of}
use Rattle.ax_term.specs.TermOrder.{order_of_values}
use Rattle.ax_atoms.specs.Recognised.{is_bound, fits}
use Rattle.ax_atoms.specs.Spans.{least_of_kind, next_kind}
use Rattle.ax_atoms.proofs.Between.{IsFit, least_front}
use Rattle.ax_atoms.proofs.Split.{truth_again}

pub value_total : IsTotalOrder value_cmp
value_total =
    then_total (on_total rank nat_cmp_total)
    (then_total (on_total number_key int_cmp_total) (on_total bytes_key nat_list_cmp_total))

-- ---- what is true where a comparison is

both_so : (c x : Bool) → is_yes (cond c (Some x) None) ≡ true → (c ≡ true) × (x ≡ true)
both_so true x h = (refl, h)
both_so false x h = absurd (false≢true h)

pub compared_true : (test : Ordering → Bool) (a b : Value)
    → is_yes (truth_of (of_truth (comparison test a b))) ≡ true
    → (are_of_one_kind a b ≡ true) × (is_scalar a ≡ true) × (test (value_cmp a b) ≡ true)
compared_true test a b h =
    let p = both_so (are_of_one_kind a b && is_scalar a) (test (value_cmp a b))
    (sym (ap is_yes (truth_again (comparison test a b))) ∙ h) in
    let q = and_parts (are_of_one_kind a b) (is_scalar a) p.0 in (q.0, q.1, p.1)

same_value : (a b : Value) → is_same_value a b ≡ true → a ≡ b
same_value Undefined Undefined h = refl
same_value Undefined (Defined b) h = absurd (false≢true h)
same_value (Defined a) Undefined h = absurd (false≢true h)
same_value (Defined a) (Defined b) h = ap Defined (same_trees a b h)

pub equal_true : (a b : Value) → is_yes (truth_of (of_truth (equality a b))) ≡ true → a ≡ b
equal_true a b h =
    let p = both_so (are_of_one_kind a b) (is_same_value a b)
    (sym (ap is_yes (truth_again (equality a b))) ∙ h) in same_value a b p.1

-- ---- orders turned round

pub lt_le : (o : Ordering) → is_lt o ≡ true → is_le o ≡ true
lt_le Less h = refl
lt_le Equal h = refl
lt_le Greater h = absurd (false≢true h)

ge_turned : (o : Ordering) → is_ge o ≡ true → is_le (ordering_reverse o) ≡ true
ge_turned Less h = absurd (false≢true h)
ge_turned Equal h = refl
ge_turned Greater h = refl

gt_ge : (o : Ordering) → is_gt o ≡ true → is_ge o ≡ true
gt_ge Less h = absurd (false≢true h)
gt_ge Equal h = absurd (false≢true h)
gt_ge Greater h = refl

pub ge_le : (a b : Value) → is_ge (value_cmp a b) ≡ true → is_le (value_cmp b a) ≡ true
ge_le a b h = ap is_le (value_total.antisymm b a) ∙ ge_turned (value_cmp a b) h

pub gt_le : (a b : Value) → is_gt (value_cmp a b) ≡ true → is_le (value_cmp b a) ≡ true
gt_le a b h = ge_le a b (gt_ge (value_cmp a b) h)

pub kinds_turned : (a b : Value) → are_of_one_kind a b ≡ true → is_scalar a ≡ true
    → are_of_one_kind b a ≡ true
kinds_turned Undefined b h s = absurd (false≢true h)
kinds_turned (Defined a) Undefined h s =
    let e : kind (Defined a) ≡ 0 = eqb-true (kind (Defined a)) 0 h in
    absurd (false≢true (sym (ap (λ n. nat_le 1 n && nat_le n 4) e) ∙ s))
kinds_turned (Defined a) (Defined b) h s =
    eq-eqb (kind (Defined b)) (kind (Defined a)) (sym (eqb-true (kind (Defined a)) (kind (Defined b)) h))

-- ---- two numbers or two texts

pub data Alike : Value → Value → Type 0 where
  numbers : (a b : ℤ) → Alike (Defined (tree.Number a)) (Defined (tree.Number b))
  texts : (a b : List ℕ) → Alike (Defined (tree.Text a)) (Defined (tree.Text b))

abbrev are_alike : Tree-F Tree → Tree-F Tree → Bool
are_alike y x =
    (nat_le 3 (kind_level y) && nat_le (kind_level y) 4) && (kind_level x == kind_level y)

alike_level : (y x : Tree-F Tree) → are_alike y x ≡ true
    → Alike (Defined (roll-Tree x)) (Defined (roll-Tree y))
alike_level (Tree-F.Number b) (Tree-F.Number a) h =
    subst (λ s. Alike (Defined s) (Defined (roll-Tree (Tree-F.Number b)))) (sym (rolls-Number a))
    (subst (λ t. Alike (Defined (tree.Number a)) (Defined t)) (sym (rolls-Number b)) (numbers a b))
alike_level (Tree-F.Text b) (Tree-F.Text a) h =
    subst (λ s. Alike (Defined s) (Defined (roll-Tree (Tree-F.Text b)))) (sym (rolls-Text a))
    (subst (λ t. Alike (Defined (tree.Text a)) (Defined t)) (sym (rolls-Text b)) (texts a b))
alike_level y x h = absurd (false≢true h)

pub alike : (v k : Value) → are_of_one_kind v k ≡ true → is_bound k ≡ true → Alike v k
alike Undefined k h b = absurd (false≢true h)
alike (Defined s) Undefined h b = absurd (false≢true b)
alike (Defined s) (Defined t) h b =
    let bounds = and_parts (nat_le 3 (kind (Defined t)) && nat_le (kind (Defined t)) 4) (fits (Defined t)) b in
    subst (λ s. Alike (Defined s) (Defined t)) (roll-out-Tree s)
    (subst (λ t. Alike (Defined (roll-Tree (out-Tree s))) (Defined t)) (roll-out-Tree t)
    (alike_level (out-Tree t) (out-Tree s) (and_from _ _ bounds.0 h)))

-- a bound fits in terms
fits_in : (v k : Value) → Alike v k → fits k ≡ true → IsFit (cut_of k)
unfolding tree.out-Tree denote.Hole.Carrier.out
fits_in _ _ (numbers a b) h = h
fits_in _ _ (texts a b) h = tt

pub bound_fits : (v k : Value) → Alike v k → is_bound k ≡ true → IsFit (cut_of k)
bound_fits v k like b =
    fits_in v k like (and_parts (nat_le 3 (kind k) && nat_le (kind k) 4) (fits k) b).1

pub alike_scalar : (v k : Value) → Alike v k → is_scalar v ≡ true
unfolding tree.out-Tree denote.Hole.Carrier.out
alike_scalar _ _ (numbers a b) = refl
alike_scalar _ _ (texts a b) = refl

pub least_number : (n : ℤ) → is_of_64_bits n ≡ true
    → is_le (int_cmp (negsuc 9223372036854775807) n) ≡ true
least_number (pos n) h = refl
least_number (negsuc n) h = grind (arith, nat_tests)

pub least_fits : (v k : Value) → Alike v k → IsFit (least_of_kind (cut_of k))
unfolding tree.out-Tree denote.Hole.Carrier.out
least_fits _ _ (numbers a b) = refl
least_fits _ _ (texts a b) = tt

pub kind_from : (v k : Value) → Alike v k → IsFit (cut_of v)
    → is_le (order_of_values (least_of_kind (cut_of k)) (cut_of v)) ≡ true
unfolding tree.out-Tree denote.Hole.Carrier.out
kind_from _ _ (numbers a b) fit = least_number a fit
kind_from _ _ (texts a b) fit = least_front (take 128 a) _

pub next_fits : (v k : Value) → Alike v k → IsFit (next_kind (cut_of k))
unfolding tree.out-Tree denote.Hole.Carrier.out
next_fits _ _ (numbers a b) = tt
next_fits _ _ (texts a b) = tt

pub kind_before : (v k : Value) → Alike v k
    → is_lt (order_of_values (cut_of v) (next_kind (cut_of k))) ≡ true
unfolding tree.out-Tree denote.Hole.Carrier.out
kind_before _ _ (numbers a b) = refl
kind_before _ _ (texts a b) = refl
