-- A payload is its low pair, a count and the postings.
use Rattle.std.proofs.Common.{◌≡◌, ◌↔◌, ℕ, ◌<◌, List, [], ◌∷◌, ◌++◌, length, take, arith, refl, ap, ◌∙◌, sym, subst, Bool, not, IsTrue, Some, slice_get}
use Rattle.std.proofs.lemmas.Bool.{true≢false}
use Rattle.std.proofs.lemmas.List.{append_assoc}
use Rattle.std.specs.Ordering.{is_lt}
use Rattle.std.specs.declared.cmp.Ordering.{Ordering}
use Rattle.std.specs.declared.cmp.Ordering.TheVariants.{Less, Equal, Greater}
use Rattle.ax_gap.specs.Varint.{varint}
use Rattle.ax_pair.specs.declared.pair.Pair.{Pair}
use Rattle.ax_pair.specs.Order.{pair_cmp, BeginsFrom}
use Rattle.ax_leaf.specs.Pairs.{Posting, pairs_with, pairs_of}
use Rattle.ax_leaf.specs.Payload.{list_after, leaf, IsLeaf, AreGood, AreAfter, ArePostings}
use Rattle.ax_leaf.specs.Reading.{postings_in}
use Rattle.ax_leaf.specs.TermList.{IsTermList, HasTermList, Begins}
use Rattle.ax_pair.proofs.PairOrder.{the_pair}
use Rattle.ax_leaf.proofs.Listed.{IsFirst, first_of}
use Rattle.ax_leaf.proofs.Read.{seen_as}

-- ---- postings are good

good_after : (last : List ℕ) (postings : List Posting) → AreAfter last postings → AreGood postings
good_after last [] h = tt
good_after last (posting ∷ postings) h = (h.1, good_after posting.term postings h.2)

pub good : (postings : List Posting) → ArePostings postings → AreGood postings
good [] h = tt
good (posting ∷ postings) h = (h.0, good_after posting.term postings h.1)

pub listed_seen : (count : ℕ) (bytes : List ℕ) (postings : List Posting) → IsTermList count bytes postings → postings_in count [] bytes ≡ postings
listed_seen count bytes postings is = seen_as [] bytes count postings (good postings is.are) is.counted is.spelled

pub listed : (count : ℕ) (bytes : List ℕ) → HasTermList count bytes → IsTermList count bytes (postings_in count [] bytes)
listed count bytes (postings, is) = subst (IsTermList count bytes) (sym (listed_seen count bytes postings is)) is

-- ---- the parts of a payload

pub leaf_parts : (bytes : List ℕ) (low : Pair) (postings : List Posting) → IsLeaf bytes low postings
    → bytes ≡ varint (length low.term) ++ (low.term ++ (varint low.number ++ (varint (length postings) ++ list_after [] postings)))
unfolding leaf
leaf_parts bytes low postings is =
    is.spelled
    ∙ append_assoc (varint (length low.term) ++ low.term ++ varint low.number) (varint (length postings)) (list_after [] postings)
    ∙ append_assoc (varint (length low.term) ++ low.term) (varint low.number) (varint (length postings) ++ list_after [] postings)
    ∙ append_assoc (varint (length low.term)) low.term (varint low.number ++ (varint (length postings) ++ list_after [] postings))

pub term_list_of : (bytes list : List ℕ) (count : ℕ) (low : Pair) (postings : List Posting) → IsLeaf bytes low postings → count ≡ length postings
    → list ≡ list_after [] postings
    → IsTermList count list postings
term_list_of bytes list count low postings is e f = record { spelled = f; counted = sym e; are = is.are }

pub whole_leaf : (bytes after list term : List ℕ) (number count : ℕ) (postings : List Posting)
    → bytes ≡ varint (length term) ++ (term ++ (varint number ++ after)) → after ≡ varint count ++ list
    → length term < 4294967296 → number < 4294967296 → count < 4294967296
    → IsTermList count list postings → BeginsFrom (the_pair term number) (pairs_of postings)
    → IsLeaf bytes (the_pair term number) postings
unfolding leaf
whole_leaf bytes after list term number count postings e f short small few is begins = record {
  spelled = e
      ∙ ap (λ bs. varint (length term) ++ (term ++ (varint number ++ bs)))
      (f ∙ ap (λ bs. varint count ++ bs) is.spelled ∙ ap (λ (n : ℕ). varint n ++ list_after [] postings) (sym is.counted))
      ∙ sym (append_assoc (varint (length term)) term (varint number ++ (varint (length postings) ++ list_after [] postings)))
      ∙ sym (append_assoc (varint (length term) ++ term) (varint number) (varint (length postings) ++ list_after [] postings))
      ∙ sym (append_assoc (varint (length term) ++ term ++ varint number) (varint (length postings)) (list_after [] postings));
  short = short;
  number = small;
  count = omega (arith, is.counted);
  are = is.are;
  begins = begins;
}

-- ---- the first pair

first_with : (term ns : List ℕ) (number : ℕ) (others : List Pair) → Some number ≡ slice_get ns 0
    → (more : List Pair) × (pairs_with term ns ++ others ≡ the_pair term number ∷ more)
first_with term [] number others e = absurd (cc)
first_with term (n ∷ ns) number others e =
    let same : n ≡ number = cc in
    (pairs_with term ns ++ others, ap (λ (m : ℕ). the_pair term m ∷ (pairs_with term ns ++ others)) same)

pub first_pair : (list : List ℕ) (count shared : ℕ) (part ns after : List ℕ) (number : ℕ) (postings : List Posting) → Begins list shared part ns after
    → (count ≡ 0 → ⊥) → Some number ≡ slice_get ns 0 → IsTermList count list postings
    → (more : List Pair) × (pairs_of postings ≡ the_pair part number ∷ more)
first_pair list count shared part ns after number [] begins some e is = absurd (some (sym is.counted))
first_pair list count shared part ns after number (posting ∷ postings) begins some e is =
    let first : IsFirst [] shared part ns after posting postings = first_of [] list shared part ns after posting postings begins is.are.0 is.spelled in
    let none : shared ≡ 0 = first.shares in
    let term : part ≡ posting.term = ap (λ (n : ℕ). take n [] ++ part) (sym none) ∙ first.is in
    let (more, whole) = first_with posting.term posting.numbers number (pairs_of postings) (e ∙ ap (λ ms. slice_get ms 0) first.has) in
    (more, whole ∙ ap (λ (t : List ℕ). the_pair t number ∷ more) (sym term))

not_less : (result : Bool) (o : Ordering) → result ≡ is_lt o → IsTrue (not result) ↔ (o ≡ Less → ⊥)
not_less result Less e = (λ h. absurd (true≢false (sym h ∙ ap not e)), λ h. absurd (h refl))
not_less result Equal e = (λ h k. cc, λ h. ap not e)
not_less result Greater e = (λ h k. cc, λ h. ap not e)

pub begins_where : (low : Pair) (part : List ℕ) (number : ℕ) (postings : List Posting) (result : Bool)
    → (more : List Pair) × (pairs_of postings ≡ the_pair part number ∷ more) → result ≡ is_lt (pair_cmp (the_pair part number) low)
    → IsTrue (not result) ↔ BeginsFrom low (pairs_of postings)
begins_where low part number postings result (more, e) is =
    let both = not_less result (pair_cmp (the_pair part number) low) is in (
      λ h. subst (BeginsFrom low) (sym e) (both.0 h),
      λ h. both.1 (subst (BeginsFrom low) e h),
    )
