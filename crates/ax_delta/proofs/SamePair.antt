-- Pairs that are the same, and pairs that come one after the other.
use Rattle.std.proofs.Common.{◌≡◌, ℕ, List, [], ◌∷◌, refl, ap, ◌∙◌, sym, Bool, true, false, ◌&&◌, nat_eq, ◌⊎◌, inl, inr, Option, Some, None}
use Rattle.std.proofs.lemmas.Bool.{eq-eqb, eqb-true, false_from_ne_true}
use Rattle.std.proofs.lemmas.Cmp.{tied_itself}
use Rattle.std.proofs.lemmas.Slice.Eq.{bytes_eq-Decides}
use Rattle.std.specs.Cmp.Lexicographic.{slice_cmp}
use Rattle.std.specs.FinMap.{slice_cmp-IsAntisymmetric, nat_cmp-IsAntisymmetric}
use Rattle.std.specs.Ordering.{nat_cmp, ordering_then, ordering_reverse}
use Rattle.std.specs.Str.{bytes_eq}
use Rattle.std.specs.declared.cmp.Ordering.{Ordering}
use Rattle.std.specs.declared.cmp.Ordering.TheVariants.{Less, Equal, Greater}
use Rattle.ax_pair.specs.declared.pair.Pair.{Pair}
use Rattle.ax_pair.specs.Order.{pair_cmp, Rise, RiseAfter}
use Rattle.ax_pair.proofs.PairOrder.{pair_cmp_total}
use Rattle.ax_pair.proofs.PairOrder.{same_pair}
use Rattle.ax_leaf.proofs.Searching.{other_term}
use Rattle.ax_delta.specs.declared.change.Change.{Change}
use Rattle.ax_delta.specs.Changes.{changed_pairs}
use Rattle.ax_delta.specs.Said.{is_same, has, said_by}

abbrev pub the_pair : List ℕ → ℕ → Pair
the_pair term number = record { term = term; number = number }

pub true_or_false : (b : Bool) → (b ≡ true) ⊎ (b ≡ false)
true_or_false true = inl refl
true_or_false false = inr refl

both_true : (a b : Bool) → (a && b) ≡ true → (a ≡ true) × (b ≡ true)
both_true true b h = (refl, h)
both_true false b h = absurd (cc)

pub same_from : (p q : Pair) → is_same p q ≡ true → p ≡ q
unfolding is_same
same_from p q h =
    let both = both_true (bytes_eq p.term q.term) (nat_eq p.number q.number) h in
    same_pair p.term q.term p.number q.number ((bytes_eq-Decides p.term q.term).0 both.0) (eqb-true p.number q.number both.1)

pub same_itself : (p : Pair) → is_same p p ≡ true
unfolding is_same
same_itself p = rw ((bytes_eq-Decides p.term p.term).1 refl, eq-eqb p.number p.number refl) refl

pub same_to : (p q : Pair) → p ≡ q → is_same p q ≡ true
same_to p q e = ap (is_same p) (sym e) ∙ same_itself p

pub differs : (p q : Pair) → (p ≡ q → ⊥) → is_same p q ≡ false
differs p q h = false_from_ne_true (is_same p q) (λ e. h (same_from p q e))

pub same_by_term : (term : List ℕ) (n : ℕ) (q : Pair) → term ≡ q.term → is_same (the_pair term n) q ≡ nat_eq n q.number
unfolding is_same
same_by_term term n q e = rw ((bytes_eq-Decides term q.term).1 e) refl

pub other_by_term : (term : List ℕ) (n : ℕ) (q : Pair) → (term ≡ q.term → ⊥) → is_same (the_pair term n) q ≡ false
unfolding is_same
other_by_term term n q h = rw (other_term term q.term h) refl

-- ---- the order of pairs

pub less_apart : (p q : Pair) → pair_cmp p q ≡ Less → q ≡ p → ⊥
less_apart p q h e =
    let equal : pair_cmp p q ≡ Equal = ap (pair_cmp p) e ∙ tied_itself pair_cmp_total p in cc

both_equal : (o r : Ordering) → ordering_then o r ≡ Equal → (o ≡ Equal) × (r ≡ Equal)
both_equal Less r h = absurd (cc)
both_equal Equal r h = (refl, h)
both_equal Greater r h = absurd (cc)

pub equal_same : (p q : Pair) → pair_cmp p q ≡ Equal → p ≡ q
equal_same p q h =
    let both = both_equal (slice_cmp nat_cmp p.term q.term) (nat_cmp p.number q.number) h in
    same_pair p.term q.term p.number q.number (slice_cmp-IsAntisymmetric nat_cmp-IsAntisymmetric p.term q.term both.0)
    (nat_cmp-IsAntisymmetric p.number q.number both.1)

pub less_from : (p q : Pair) → pair_cmp q p ≡ Greater → pair_cmp p q ≡ Less
less_from p q h = pair_cmp_total.antisymm p q ∙ ap ordering_reverse h

-- ---- lists that rise over a pair, where one is given

abbrev pub IsAbove : Option Pair → Pair → Type 0
IsAbove None p = Unit {0}
IsAbove (Some low) p = pair_cmp low p ≡ Less

abbrev pub RisesOver : Option Pair → List Pair → Type 0
RisesOver None pairs = Rise pairs
RisesOver (Some low) pairs = RiseAfter low pairs

pub nothing_over : (low : Option Pair) → RisesOver low []
nothing_over None = tt
nothing_over (Some low) = tt

pub put_over : (low : Option Pair) (p : Pair) (pairs : List Pair) → IsAbove low p → RiseAfter p pairs → RisesOver low (p ∷ pairs)
put_over None p pairs h k = k
put_over (Some low) p pairs h k = (h, k)

pub first_above : (low : Option Pair) (p : Pair) (pairs : List Pair) → RisesOver low (p ∷ pairs) → IsAbove low p
first_above None p pairs h = tt
first_above (Some low) p pairs h = h.0

pub rest_rises : (low : Option Pair) (p : Pair) (pairs : List Pair) → RisesOver low (p ∷ pairs) → RiseAfter p pairs
rest_rises None p pairs h = h
rest_rises (Some low) p pairs h = h.1

pub later : (low : Option Pair) (p : Pair) (pairs : List Pair) → IsAbove low p → RiseAfter p pairs → RisesOver low pairs
later None p [] h k = tt
later None p (q ∷ pairs) h k = k.1
later (Some low) p [] h k = tt
later (Some low) p (q ∷ pairs) h k = (pair_cmp_total.trans low p q h k.0, k.1)

pub rises_alone : (p : Pair) (pairs : List Pair) → RiseAfter p pairs → Rise pairs
rises_alone p pairs h = later None p pairs tt h

-- ---- what is below a list is not in it

pub none_above : (q : Pair) (pairs : List Pair) → RiseAfter q pairs → has q pairs ≡ false
none_above q [] h = refl
none_above q (p ∷ pairs) h = rw (differs p q (less_apart q p h.0)) (none_above q pairs (later (Some q) p pairs h.0 h.1))

pub none_said : (q : Pair) (changes : List Change) → RiseAfter q (changed_pairs changes) → said_by q changes ≡ None
none_said q [] h = refl
none_said q (c ∷ changes) h = rw (differs c.pair q (less_apart q c.pair h.0)) (none_said q changes (later (Some q) c.pair (changed_pairs changes) h.0 h.1))
