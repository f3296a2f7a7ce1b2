-- A pair among those of postings: it is looked up by its term, and then by its number.
use Rattle.std.proofs.Common.{◌≡◌, ℕ, List, [], ◌∷◌, ◌++◌, refl, ap, ◌∙◌, sym, subst, Bool, true, false, cond, nat_eq, ⊎_elim, Option, Some, None}
use Rattle.std.proofs.lemmas.Cmp.{nat_list_cmp_total, tied_itself}
use Rattle.std.proofs.lemmas.Slice.Eq.{bytes_eq-Decides}
use Rattle.std.specs.Cmp.Lexicographic.{slice_cmp}
use Rattle.std.specs.Ordering.{nat_cmp}
use Rattle.std.specs.Str.{bytes_eq}
use Rattle.std.specs.declared.cmp.Ordering.TheVariants.{Less, Equal}
use Rattle.ax_gap.specs.Gaps.{IsRisingList}
use Rattle.ax_pair.specs.declared.pair.Pair.{Pair}
use Rattle.ax_leaf.specs.Lookup.{numbers_under}
use Rattle.ax_leaf.specs.Pairs.{Posting, pairs_of, pairs_with}
use Rattle.ax_leaf.specs.Payload.{AreAfter, ArePostings, IsLeaf}
use Rattle.ax_leaf.proofs.OneSpelling.{one_leaf}
use Rattle.ax_delta.specs.Said.{has, has_number}
use Rattle.ax_delta.proofs.SamePair.{the_pair, true_or_false, same_by_term, other_by_term}
use Rattle.ax_pairs.specs.PagePairs.{IsBase}

-- the number is among those that were found
abbrev pub has_in : ℕ → Option (List ℕ) → Bool
has_in n None = false
has_in n (Some numbers) = has_number n numbers

has_here : (term : List ℕ) (n : ℕ) (numbers : List ℕ) (others : List Pair) → has (the_pair term n) others ≡ false
    → has (the_pair term n) (pairs_with term numbers ++ others) ≡ has_number n numbers
has_here term n [] others none = none
has_here term n (m ∷ numbers) others none =
    ap (λ (b : Bool). cond b true (has (the_pair term n) (pairs_with term numbers ++ others))) (same_by_term term m (the_pair term n) refl)
    ∙ ap (λ (b : Bool). cond (nat_eq m n) true b) (has_here term n numbers others none)

has_past : (term other : List ℕ) (n : ℕ) (numbers : List ℕ) (others : List Pair) → (other ≡ term → ⊥)
    → has (the_pair term n) (pairs_with other numbers ++ others) ≡ has (the_pair term n) others
has_past term other n [] others apart = refl
has_past term other n (m ∷ numbers) others apart =
    ap (λ (b : Bool). cond b true (has (the_pair term n) (pairs_with other numbers ++ others))) (other_by_term other m (the_pair term n) apart)
    ∙ has_past term other n numbers others apart

less_differs : (a b : List ℕ) → slice_cmp nat_cmp a b ≡ Less → b ≡ a → ⊥
less_differs a b less e =
    let equal : slice_cmp nat_cmp a b ≡ Equal = ap (slice_cmp nat_cmp a) e ∙ tied_itself nat_list_cmp_total a in cc

-- behind a term there are no pairs of it
none_behind : (term last : List ℕ) (n : ℕ) (postings : List Posting)
    → ((t : List ℕ) → slice_cmp nat_cmp last t ≡ Less → slice_cmp nat_cmp term t ≡ Less) → AreAfter last postings
    → has (the_pair term n) (pairs_of postings) ≡ false
none_behind term last n [] below h = refl
none_behind term last n (x ∷ postings) below h =
    let less : slice_cmp nat_cmp term x.term ≡ Less = below x.term h.0 in
    has_past term x.term n x.numbers (pairs_of postings) (less_differs term x.term less)
    ∙ none_behind term x.term n postings (λ t after. nat_list_cmp_total.trans term x.term t less after) h.2

at_posting : (term : List ℕ) (n : ℕ) (x : Posting) (postings : List Posting) → AreAfter x.term postings
    → has (the_pair term n) (pairs_of postings) ≡ has_in n (numbers_under term postings)
    → has (the_pair term n) (pairs_of (x ∷ postings)) ≡ has_in n (numbers_under term (x ∷ postings))
at_posting term n x postings h rest =
    ⊎_elim
    (λ (s : bytes_eq x.term term ≡ true).
    let same : x.term ≡ term = (bytes_eq-Decides x.term term).0 s in
    let none : has (the_pair term n) (pairs_of postings) ≡ false =
    none_behind term x.term n postings (λ t after. ap (λ (a : List ℕ). slice_cmp nat_cmp a t) (sym same) ∙ after) h
    in
    ap (λ (a : List ℕ). has (the_pair term n) (pairs_with a x.numbers ++ pairs_of postings)) same
    ∙ has_here term n x.numbers (pairs_of postings) none
    ∙ sym (ap (λ (b : Bool). has_in n (cond b (Some x.numbers) (numbers_under term postings))) s))
    (λ (s : bytes_eq x.term term ≡ false).
    has_past term x.term n x.numbers (pairs_of postings) (λ e. let eq : bytes_eq x.term term ≡ true = (bytes_eq-Decides x.term term).1 e in absurd (cc))
    ∙ rest
    ∙ sym (ap (λ (b : Bool). has_in n (cond b (Some x.numbers) (numbers_under term postings))) s))
    (true_or_false (bytes_eq x.term term))

under_after : (term : List ℕ) (n : ℕ) (last : List ℕ) (postings : List Posting) → AreAfter last postings
    → has (the_pair term n) (pairs_of postings) ≡ has_in n (numbers_under term postings)
under_after term n last [] h = refl
under_after term n last (x ∷ postings) h = at_posting term n x postings h.2 (under_after term n x.term postings h.2)

-- whether postings have a pair
pub has_under : (term : List ℕ) (n : ℕ) (postings : List Posting) → ArePostings postings
    → has (the_pair term n) (pairs_of postings) ≡ has_in n (numbers_under term postings)
has_under term n [] h = refl
has_under term n (x ∷ postings) h = at_posting term n x postings h.1 (under_after term n x.term postings h.1)

-- ---- the numbers that are found rise

some_of : (a b : List ℕ) → Some a ≡ Some b → a ≡ b
some_of a b e = cc

at_rises : (term numbers : List ℕ) (x : Posting) (postings : List Posting) → IsRisingList x.numbers
    → (numbers_under term postings ≡ Some numbers → IsRisingList numbers)
    → numbers_under term (x ∷ postings) ≡ Some numbers → IsRisingList numbers
at_rises term numbers x postings up rest e =
    ⊎_elim
    (λ (s : bytes_eq x.term term ≡ true).
    subst IsRisingList (some_of x.numbers numbers (sym (ap (λ (b : Bool). cond b (Some x.numbers) (numbers_under term postings)) s) ∙ e)) up)
    (λ (s : bytes_eq x.term term ≡ false). rest (sym (ap (λ (b : Bool). cond b (Some x.numbers) (numbers_under term postings)) s) ∙ e))
    (true_or_false (bytes_eq x.term term))

rises_after : (term numbers last : List ℕ) (postings : List Posting) → AreAfter last postings → numbers_under term postings ≡ Some numbers
    → IsRisingList numbers
rises_after term numbers last [] h e = absurd (cc)
rises_after term numbers last (x ∷ postings) h e = at_rises term numbers x postings h.1.rising (rises_after term numbers x.term postings h.2) e

pub under_rises : (term numbers : List ℕ) (postings : List Posting) → ArePostings postings → numbers_under term postings ≡ Some numbers → IsRisingList numbers
under_rises term numbers [] h e = absurd (cc)
under_rises term numbers (x ∷ postings) h e = at_rises term numbers x postings h.0.rising (rises_after term numbers x.term postings h.1) e

-- ---- a base

-- the pairs of a base that was read are those that it is the payload of
pub base_pairs_are : (payload : List ℕ) (low : Pair) (postings : List Posting) (pairs : List Pair) → IsLeaf payload low postings
    → IsBase payload pairs → pairs ≡ pairs_of postings
base_pairs_are payload low postings pairs is base =
    base.have ∙ ap pairs_of (one_leaf payload base.low low base.postings postings base.is is).1

pub base_has : (payload : List ℕ) (low : Pair) (postings : List Posting) (term sought : List ℕ) (n : ℕ) (found : Option (List ℕ)) (pairs : List Pair)
    → IsLeaf payload low postings → sought ≡ term → found ≡ numbers_under sought postings → IsBase payload pairs
    → has_in n found ≡ has (the_pair term n) pairs
base_has payload low postings term sought n found pairs is same e base =
    ap (has_in n) (e ∙ ap (λ (t : List ℕ). numbers_under t postings) same)
    ∙ sym (has_under term n postings is.are)
    ∙ ap (has (the_pair term n)) (sym (base_pairs_are payload low postings pairs is base))
