-- The pairs of rising postings rise, so none is before a pair before which the first is not.
use Rattle.std.proofs.Common.{◌≡◌, ℕ, ◌+◌, ◌<◌, List, [], ◌∷◌, ◌++◌, length, arith, refl, sym, All}
use Rattle.std.proofs.lemmas.Cmp.{nat_list_cmp_total, tied_itself}
use Rattle.std.proofs.lemmas.List.Elements.{All-nil, All-cons}
use Rattle.std.specs.Cmp.{nat_cmp_is}
use Rattle.std.specs.Cmp.Lexicographic.{slice_cmp}
use Rattle.std.specs.Ordering.{nat_cmp}
use Rattle.std.specs.declared.cmp.Ordering.TheVariants.{Less}
use Rattle.ax_gap.proofs.Rising.{RisesFrom, rises}
use Rattle.ax_pair.specs.declared.pair.Pair.{Pair}
use Rattle.ax_pair.specs.Order.{pair_cmp, Rise, RiseAfter, BeginsFrom}
use Rattle.ax_leaf.specs.Pairs.{Posting, pairs_with, pairs_of}
use Rattle.ax_leaf.specs.Payload.{AreAfter, ArePostings}
use Rattle.ax_pair.proofs.PairOrder.{the_pair, pair_cmp_total}

pub by_number : (term : List ℕ) (m n : ℕ) → m < n → pair_cmp (the_pair term m) (the_pair term n) ≡ Less
by_number term m n h = rw (tied_itself nat_list_cmp_total term) (sym (nat_cmp_is m n Less h))

pub by_term : (a b : List ℕ) (m n : ℕ) → slice_cmp nat_cmp a b ≡ Less → pair_cmp (the_pair a m) (the_pair b n) ≡ Less
by_term a b m n h = rw h refl

-- the pairs of a term, behind one of them, and others behind all of them
after_with : (term : List ℕ) (n : ℕ) (ns : List ℕ) (others : List Pair) → RisesFrom (n + 1) ns → ((m : ℕ) → RiseAfter (the_pair term m) others)
    → RiseAfter (the_pair term n) (pairs_with term ns ++ others)
after_with term n [] others up behind = behind n
after_with term n (m ∷ ns) others up behind = (by_number term n m (omega arith), after_with term m ns others up.2 behind)

-- the pairs of a posting, each behind the one before
abbrev InRow : List ℕ → List ℕ → List Pair → Type 0
InRow term ns others = RisesFrom 0 ns → 0 < length ns → ((m : ℕ) → RiseAfter (the_pair term m) others) → Rise (pairs_with term ns ++ others)

in_row : (term ns : List ℕ) (others : List Pair) → InRow term ns others
in_row term [] others up some behind = absurd (omega arith)
in_row term (n ∷ ns) others up some behind = after_with term n ns others up.2 behind

behind_term : (last : List ℕ) (n : ℕ) (term ns : List ℕ) (others : List Pair) → slice_cmp nat_cmp last term ≡ Less → RisesFrom 0 ns → 0 < length ns
    → ((m : ℕ) → RiseAfter (the_pair term m) others) → RiseAfter (the_pair last n) (pairs_with term ns ++ others)
behind_term last n term [] others less up some behind = absurd (omega arith)
behind_term last n term (m ∷ ns) others less up some behind = (by_term last term n m less, after_with term m ns others up.2 behind)

after_postings : (last : List ℕ) (n : ℕ) (postings : List Posting) → AreAfter last postings → RiseAfter (the_pair last n) (pairs_of postings)
after_postings last n [] h = tt
after_postings last n (posting ∷ postings) h =
    behind_term last n posting.term posting.numbers (pairs_of postings) h.0 (rises posting.numbers h.1.rising) h.1.some
    (λ m. after_postings posting.term m postings h.2)

pub pairs_rise : (postings : List Posting) → ArePostings postings → Rise (pairs_of postings)
pairs_rise [] h = tt
pairs_rise (posting ∷ postings) h =
    in_row posting.term posting.numbers (pairs_of postings) (rises posting.numbers h.0.rising) h.0.some (λ m. after_postings posting.term m postings h.1)

abbrev NotBefore : Pair → Pair → Type 0
NotBefore low pair = pair_cmp pair low ≡ Less → ⊥

none_before : (low p : Pair) (pairs : List Pair) → NotBefore low p → RiseAfter p pairs → All (NotBefore low) pairs
none_before low p [] h rise = All-nil (NotBefore low)
none_before low p (q ∷ pairs) h rise =
    let next : NotBefore low q = λ less. h (pair_cmp_total.trans p q low rise.0 less) in
    All-cons (NotBefore low) q pairs next (none_before low q pairs next rise.1)

none_rising : (low : Pair) (pairs : List Pair) → Rise pairs → BeginsFrom low pairs → All (NotBefore low) pairs
none_rising low [] rise begins = All-nil (NotBefore low)
none_rising low (p ∷ pairs) rise begins = All-cons (NotBefore low) p pairs begins (none_before low p pairs begins rise)

pub from_low : (low : Pair) (postings : List Posting) → ArePostings postings → BeginsFrom low (pairs_of postings)
    → All (λ pair. pair_cmp pair low ≡ Less → ⊥) (pairs_of postings)
from_low low postings are begins = none_rising low (pairs_of postings) (pairs_rise postings are) begins
