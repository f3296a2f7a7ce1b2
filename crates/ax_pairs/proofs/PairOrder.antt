-- The order of pairs: what "not after" gives.
use Rattle.std.proofs.Common.{◌≡◌, ◌⊎◌, inl, inr, refl, sym, ap, ◌∙◌}
use Rattle.std.proofs.lemmas.Cmp.{tied_itself}
use Rattle.std.specs.Ordering.{ordering_reverse}
use Rattle.std.specs.declared.cmp.Ordering.{Ordering}
use Rattle.std.specs.declared.cmp.Ordering.TheVariants.{Less, Equal, Greater}
use Rattle.ax_pair.specs.declared.pair.Pair.{Pair}
use Rattle.ax_pair.specs.Order.{pair_cmp}
use Rattle.ax_pair.proofs.PairOrder.{pair_cmp_total}
use Rattle.ax_delta.proofs.SamePair.{equal_same, less_from}

abbrev pub NotAfter : Pair → Pair → Type 0
NotAfter p q = pair_cmp p q ≡ Greater → ⊥

pub flipped : (p q : Pair) → pair_cmp p q ≡ Less → pair_cmp q p ≡ Greater
flipped p q less = pair_cmp_total.antisymm q p ∙ ap ordering_reverse less

pub order_cases : (p q : Pair) → NotAfter p q ⊎ (pair_cmp q p ≡ Less)
order_cases p q = by_order (pair_cmp p q) refl
  where
    by_order : (o : Ordering) → pair_cmp p q ≡ o → NotAfter p q ⊎ (pair_cmp q p ≡ Less)
    by_order Less e = inl (λ greater. cc)
    by_order Equal e = inl (λ greater. cc)
    by_order Greater e = inr (less_from q p e)

pub same_not_after : (p q : Pair) → p ≡ q → NotAfter p q
same_not_after p q same greater =
    let equal : pair_cmp p q ≡ Equal = ap (pair_cmp p) (sym same) ∙ tied_itself pair_cmp_total p in cc

pub less_not_after : (p q : Pair) → pair_cmp p q ≡ Less → NotAfter p q
less_not_after p q less greater = cc

pub not_both : (p q : Pair) → pair_cmp p q ≡ Less → NotAfter q p → ⊥
not_both p q less not_after = not_after (flipped p q less)

pub less_then : (p q r : Pair) → pair_cmp p q ≡ Less → NotAfter q r → pair_cmp p r ≡ Less
less_then p q r less not_after = by_order (pair_cmp q r) refl
  where
    by_order : (o : Ordering) → pair_cmp q r ≡ o → pair_cmp p r ≡ Less
    by_order Less e = pair_cmp_total.trans p q r less e
    by_order Equal e = ap (pair_cmp p) (sym (equal_same q r e)) ∙ less
    by_order Greater e = absurd (not_after e)

pub then_less : (p q r : Pair) → NotAfter p q → pair_cmp q r ≡ Less → pair_cmp p r ≡ Less
then_less p q r not_after less = by_order (pair_cmp p q) refl
  where
    by_order : (o : Ordering) → pair_cmp p q ≡ o → pair_cmp p r ≡ Less
    by_order Less e = pair_cmp_total.trans p q r e less
    by_order Equal e = ap (λ (x : Pair). pair_cmp x r) (equal_same p q e) ∙ less
    by_order Greater e = absurd (not_after e)

pub not_after_then : (p q r : Pair) → NotAfter p q → NotAfter q r → NotAfter p r
not_after_then p q r first second greater =
    let less : pair_cmp r p ≡ Less = less_from r p greater in
    not_both r q (less_then r p q less first) second

pub both_ways : (p q : Pair) → NotAfter p q → NotAfter q p → p ≡ q
both_ways p q first second = by_order (pair_cmp p q) refl
  where
    by_order : (o : Ordering) → pair_cmp p q ≡ o → p ≡ q
    by_order Less e = absurd (not_both p q e second)
    by_order Equal e = equal_same p q e
    by_order Greater e = absurd (first e)
