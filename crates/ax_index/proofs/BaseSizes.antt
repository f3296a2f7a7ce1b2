-- How many bytes a base takes at most.
use Rattle.std.proofs.Common.{◌≡◌, ℕ, ◌+◌, ◌-◌, ◌*◌, ◌<◌, ◌≤◌, ◌^◌, List, [], ◌∷◌, ◌++◌, length}
use Rattle.std.proofs.Common.{zero, suc, take, get_or, drop, arith, ap, refl, sym, ◌∙◌, Bool, true, false, cond}
use Rattle.std.proofs.Common.{subst, IsTrue, ◌↔◌, inl, inr, ⊎_elim, ◌⊎◌, eqb-true}
use Rattle.std.specs.Prelude.{nat_eq, nat_lt, ◌==◌, ◌&&◌}
use Rattle.std.specs.List.{All}
use Rattle.std.specs.Str.{bytes_eq}
use Rattle.std.proofs.lemmas.Bool.{and_parts, cases_lt, cases_order, eq-eqb, ne_eqb}
use Rattle.std.proofs.lemmas.List.{length-append, length-drop, take_all}
use Rattle.std.proofs.lemmas.List.Elements.{All-drop, All-take}
use Rattle.std.proofs.lemmas.List.Sums.{common_prefix_len-le}
use Rattle.std.proofs.lemmas.Slice.Eq.{bytes_eq-Decides}
use Rattle.ax_gap.specs.Gaps.{gaps}
use Rattle.ax_gap.specs.Varint.{varint}
use Rattle.ax_gap.proofs.Lengths.{five_groups, list_within}
use Rattle.ax_pair.specs.declared.pair.Pair.{Pair}
use Rattle.ax_leaf.specs.Pairs.{Posting, postings_from, postings_of}
use Rattle.ax_leaf.specs.Payload.{AreAfter, ArePostings, IsLeaf, IsPosting, common, leaf, list_after, term_after}
use Rattle.ax_index.specs.DeltaSizes.{AreShort, HasLongTerm, most_term_bytes}
use Rattle.ax_index.specs.PageSizes.{base_bytes, bytes_behind, bytes_beside, number_bytes}

-- ---- by postings

-- what a posting takes at most, behind this term
abbrev cost : List ℕ → Posting → ℕ
cost last posting = 15 + (length posting.term - common last posting.term) + 5 * length posting.numbers

abbrev costs : List ℕ → List Posting → ℕ
costs last [] = 0
costs last (posting ∷ postings) = cost last posting + costs posting.term postings

term_fits : (last term : List ℕ) → length term < 2 ^ 32 → length (term_after last term) ≤ 10 + (length term - common last term)
unfolding term_after
term_fits last term short =
    let shared : ℕ = common last term in
    let within : shared ≤ length term = (common_prefix_len-le nat_eq last term).1 in
    omega (
      arith,
      length-append (varint shared ++ varint (length term - shared)) (drop shared term),
      length-append (varint shared) (varint (length term - shared)),
      length-drop shared term,
      five_groups shared (omega arith),
      five_groups (length term - shared) (omega arith),
    )

posting_fits : (last : List ℕ) (posting : Posting) (rest : List ℕ) → IsPosting posting
    → length (term_after last posting.term ++ gaps posting.numbers ++ rest) ≤ cost last posting + length rest
posting_fits last posting rest is =
    omega (
      arith,
      length-append (term_after last posting.term ++ gaps posting.numbers) rest,
      length-append (term_after last posting.term) (gaps posting.numbers),
      term_fits last posting.term is.short,
      list_within posting.numbers is.rising,
    )

list_fits : (last : List ℕ) (postings : List Posting) → AreAfter last postings → length (list_after last postings) ≤ costs last postings
unfolding list_after
list_fits last [] are = omega arith
list_fits last (posting ∷ postings) are =
    omega (arith, posting_fits last posting (list_after posting.term postings) are.1, list_fits posting.term postings are.2)

postings_fit : (postings : List Posting) → ArePostings postings → length (list_after [] postings) ≤ costs [] postings
unfolding list_after
postings_fit [] are = omega arith
postings_fit (posting ∷ postings) are =
    omega (arith, posting_fits [] posting (list_after posting.term postings) are.0, list_fits posting.term postings are.1)

-- ---- by pairs

-- a number counts
number_counts : (n : ℕ) → 1 ≤ number_bytes n
number_counts n = by_tests (nat_lt n 128) (nat_lt n 16384) (nat_lt n 2097152) (nat_lt n 268435456)
  where
    by_tests : (first second third fourth : Bool) → 1 ≤ cond first 1 (cond second 2 (cond third 3 (cond fourth 4 5)))
    by_tests true second third fourth = omega arith
    by_tests false true third fourth = omega arith
    by_tests false false true fourth = omega arith
    by_tests false false false true = omega arith
    by_tests false false false false = omega arith

-- terms that have all their bytes in common are one
common_all : (first second : List ℕ) → common first second ≡ length second → common first second ≡ length first → first ≡ second
common_all [] [] whole mine = refl
common_all [] (y ∷ second) whole mine = absurd (omega (arith, whole))
common_all (x ∷ first) [] whole mine = absurd (omega (arith, mine))
common_all (x ∷ first) (y ∷ second) whole mine =
    ⊎_elim
    (λ (e : x ≡ y).
    let more : 1 + common first second ≡ length (y ∷ second) = rw (eq-eqb x y e) at whole in
    let most : 1 + common first second ≡ length (x ∷ first) = rw (eq-eqb x y e) at mine in
    ap (λ (n : ℕ). n ∷ first) e ∙ ap (λ (t : List ℕ). y ∷ t) (common_all first second (omega (arith, more)) (omega (arith, most))))
    (λ (other : (x < y) ⊎ (y < x)).
    let none : 0 ≡ length (y ∷ second) = rw (ne_eqb x y (λ e. ⊎_elim (λ (l : x < y). omega arith) (λ (l : y < x). omega arith) other)) at whole in
    absurd (omega (arith, none)))
    (cases_order x y)

same_terms : (first second : List ℕ) → (common first second == length second) && (common first second == length first) ≡ true → first ≡ second
same_terms first second all =
    let both = and_parts (common first second == length second) (common first second == length first) all in
    common_all first second (eqb-true (common first second) (length second) both.0) (eqb-true (common first second) (length first) both.1)

-- a pair counts
beside_some : (before pair : Pair) → 1 ≤ bytes_beside before pair
beside_some before pair =
    by_test
    ((common before.term pair.term == length pair.term) && (common before.term pair.term == length before.term))
    (number_counts (pair.number - before.number)) (number_counts pair.number)
  where
    by_test : (b : Bool) → 1 ≤ number_bytes (pair.number - before.number) → 1 ≤ number_bytes pair.number
        → 1 ≤ cond b (number_bytes (pair.number - before.number)) (4 + number_bytes pair.number + (length pair.term - common before.term pair.term))
    by_test true same other = same
    by_test false same other = omega arith

-- and one of another term with what it does not share
beside_other : (before pair : Pair) → bytes_eq pair.term before.term ≡ false
    → 4 + (length pair.term - common before.term pair.term) ≤ bytes_beside before pair
beside_other before pair differ =
    by_test ((common before.term pair.term == length pair.term) && (common before.term pair.term == length before.term)) refl
  where
    by_test : (b : Bool) → (common before.term pair.term == length pair.term) && (common before.term pair.term == length before.term) ≡ b
        → 4 + (length pair.term - common before.term pair.term)
        ≤ cond b (number_bytes (pair.number - before.number)) (4 + number_bytes pair.number + (length pair.term - common before.term pair.term))
    by_test true all = let same = (bytes_eq-Decides pair.term before.term).1 (sym (same_terms before.term pair.term all)) in absurd (cc)
    by_test false all = omega arith

costs_from : (last term numbers : List ℕ) (before : Pair) (pairs : List Pair) → before.term ≡ term
    → costs last (postings_from term numbers pairs) ≤ 15 + (length term - common last term) + 5 * length numbers + 5 * bytes_behind before pairs
unfolding postings_from
costs_from last term numbers before [] is = omega arith
costs_from last term numbers before (pair ∷ pairs) is =
    by_test (bytes_eq pair.term term) refl (costs_from last term (numbers ++ pair.number ∷ []) pair pairs)
    (costs_from term pair.term (pair.number ∷ []) pair pairs refl)
  where
    by_test : (b : Bool) → bytes_eq pair.term term ≡ b
        → (pair.term ≡ term → costs last (postings_from term (numbers ++ pair.number ∷ []) pairs)
        ≤ 15 + (length term - common last term) + 5 * length (numbers ++ pair.number ∷ []) + 5 * bytes_behind pair pairs)
        → costs term (postings_from pair.term (pair.number ∷ []) pairs) ≤ 15 + (length pair.term - common term pair.term) + 5 * 1 + 5 * bytes_behind pair pairs
        → costs last (cond b (postings_from term (numbers ++ pair.number ∷ []) pairs)
        (record { term = term; numbers = numbers } ∷ postings_from pair.term (pair.number ∷ []) pairs))
        ≤ 15 + (length term - common last term) + 5 * length numbers + 5 * (bytes_beside before pair + bytes_behind pair pairs)
    by_test true same here there =
        omega (
          arith,
          here ((bytes_eq-Decides pair.term term).0 same),
          length-append numbers (pair.number ∷ []),
          beside_some before pair,
        )
    by_test false differ here there =
        omega (
          arith,
          there,
          ap (λ (t : List ℕ). length pair.term - common t pair.term) is,
          beside_other before pair (ap (bytes_eq pair.term) is ∙ differ),
        )

-- the term of the first counts too here
abbrev first_length : List Pair → ℕ
first_length [] = 0
first_length (pair ∷ pairs) = length pair.term

costs_of : (pairs : List Pair) → costs [] (postings_of pairs) ≤ first_length pairs + 5 * base_bytes pairs
unfolding postings_of
costs_of [] = omega arith
costs_of (pair ∷ pairs) = omega (arith, costs_from [] pair.term (pair.number ∷ []) pair pairs refl)

-- ---- a payload

spelled_fits : (low : Pair) (postings : List Posting) → length low.term < 2 ^ 32 → low.number < 2 ^ 32 → length postings < 2 ^ 32 → ArePostings postings
    → length (leaf low postings) ≤ 15 + length low.term + costs [] postings
unfolding leaf
spelled_fits low postings short number count are =
    omega (
      arith,
      length-append (varint (length low.term) ++ low.term ++ varint low.number ++ varint (length postings)) (list_after [] postings),
      length-append (varint (length low.term) ++ low.term ++ varint low.number) (varint (length postings)),
      length-append (varint (length low.term) ++ low.term) (varint low.number),
      length-append (varint (length low.term)) low.term,
      five_groups (length low.term) (omega arith),
      five_groups low.number (omega arith),
      five_groups (length postings) (omega arith),
      postings_fit postings are,
    )

pub base_fits : (payload : List ℕ) (low : Pair) (pairs : List Pair) → IsLeaf payload low (postings_of pairs) → AreShort low pairs → base_bytes pairs ≤ 4096
    → length payload ≤ 65536
base_fits payload low pairs is short few =
    omega (
      arith,
      ap length is.spelled,
      spelled_fits low (postings_of pairs) is.short is.number is.count is.are,
      costs_of pairs,
      short.0,
      first_within pairs short.1,
      few,
    )
  where
    first_within : (some : List Pair) → All (λ pair. length pair.term ≤ most_term_bytes) some → first_length some ≤ 4096
    first_within [] all = omega arith
    first_within (pair ∷ some) all = all 0 pair (omega arith)

-- ---- one pair more

behind_more : (first : Pair) (pairs : List Pair) (i : ℕ) (d e : Pair) → i < length pairs
    → bytes_behind first (take (suc i) pairs) ≡ bytes_behind first (take i pairs) + bytes_beside (get_or (first ∷ pairs) i d) (get_or pairs i e)
behind_more first [] i d e there = absurd (omega (arith, there))
behind_more first (pair ∷ pairs) zero d e there = omega arith
behind_more first (pair ∷ pairs) (suc i) d e there = omega (arith, behind_more pair pairs i d e (omega (arith, there)))

pub base_more : (pairs : List Pair) (i : ℕ) (before pair : Pair) → 0 < i → i < length pairs → before ≡ get_or pairs (i - 1) before → pair ≡ get_or pairs i pair
    → base_bytes (take (i + 1) pairs) ≡ base_bytes (take i pairs) + bytes_beside before pair
base_more [] i before pair some there before_is pair_is = absurd (omega (arith, there))
base_more (first ∷ pairs) zero before pair some there before_is pair_is = absurd (omega (arith, some))
base_more (first ∷ pairs) (suc i) before pair some there before_is pair_is =
    let more : suc (suc i) ≡ suc i + 1 = omega arith in
    let less : suc i - 1 ≡ i = omega arith in
    let last : before ≡ get_or (first ∷ pairs) i before = before_is ∙ ap (λ (n : ℕ). get_or (first ∷ pairs) n before) less in
    omega (
      arith,
      ap (λ (n : ℕ). base_bytes (take n (first ∷ pairs))) more,
      behind_more first pairs i before pair (omega (arith, there)),
      ap (λ (p : Pair). bytes_beside p pair) last,
      ap (λ (p : Pair). bytes_beside (get_or (first ∷ pairs) i before) p) pair_is,
    )

-- a base of one pair
pub one_fits : (pairs : List Pair) → base_bytes (take 1 pairs) ≤ 4096
one_fits [] = omega arith
one_fits (pair ∷ pairs) = omega arith

pub one_counts : (pairs : List Pair) → 0 < length pairs → base_bytes (take 1 pairs) ≡ 25
one_counts [] some = absurd (omega (arith, some))
one_counts (pair ∷ pairs) some = omega arith

-- what is counted up to a pair is what a base that ends there has
pub kept_fits : (pairs : List Pair) (b : Bool) (i front kept : ℕ) → kept ≡ cond b front (i + 1) → base_bytes (take front pairs) ≤ 4096
    → base_bytes (take (i + 1) pairs) ≤ 4096 → base_bytes (take kept pairs) ≤ 4096
kept_fits pairs true i front kept is before now = omega (arith, ap (λ (n : ℕ). base_bytes (take n pairs)) is, before)
kept_fits pairs false i front kept is before now = omega (arith, ap (λ (n : ℕ). base_bytes (take n pairs)) is, now)

pub whole_fits : (pairs : List Pair) (i bytes : ℕ) → length pairs ≤ i → bytes ≤ 4096 → (0 < length pairs → bytes ≡ base_bytes (take i pairs))
    → base_bytes (take (length pairs) pairs) ≤ 4096
whole_fits [] i bytes past few counted = omega arith
whole_fits (pair ∷ pairs) i bytes past few counted =
    omega (
      arith,
      ap base_bytes (take_all (length (pair ∷ pairs)) (pair ∷ pairs) (omega arith)),
      ap base_bytes (take_all i (pair ∷ pairs) past),
      counted (omega arith),
      few,
    )

-- ---- short terms

pub front_short : (n : ℕ) (low : Pair) (pairs front : List Pair) → front ≡ take n pairs → AreShort low pairs → AreShort low front
front_short n low pairs front is short =
    subst (AreShort low) (sym is) (short.0, All-take (λ pair. length pair.term ≤ most_term_bytes) n pairs short.1)

pub behind_short : (n : ℕ) (pairs behind : List Pair) → behind ≡ drop n pairs → All (λ pair. length pair.term ≤ most_term_bytes) pairs
    → All (λ pair. length pair.term ≤ most_term_bytes) behind
behind_short n pairs behind is short =
    subst (λ (some : List Pair). All (λ pair. length pair.term ≤ most_term_bytes) some) (sym is)
    (All-drop (λ pair. length pair.term ≤ most_term_bytes) n pairs short)

-- the pairs of a new page, whose low pair is the first of them
pub own_short : (low : Pair) (pairs rest : List Pair) → pairs ≡ low ∷ rest → All (λ pair. length pair.term ≤ most_term_bytes) pairs → AreShort low pairs
own_short low pairs rest is short =
    (subst (λ (some : List Pair). All (λ pair. length pair.term ≤ most_term_bytes) some) is short 0 low (omega arith), short)

pub short_or_long : (low : Pair) (pairs : List Pair) → AreShort low pairs ⊎ HasLongTerm low pairs
short_or_long low [] =
    ⊎_elim (λ (l : most_term_bytes < length low.term). inr l) (λ (s : length low.term ≤ most_term_bytes). inl (s, λ k d lt. absurd (omega (arith, lt))))
    (cases_lt most_term_bytes (length low.term))
short_or_long low (pair ∷ pairs) =
    ⊎_elim (λ (l : most_term_bytes < length pair.term). inr (inl l))
    (λ (s : length pair.term ≤ most_term_bytes).
    ⊎_elim (λ (all : AreShort low pairs). inl (all.0, with_first s all.1)) (λ (long : HasLongTerm low pairs). inr (inr long)) (short_or_long low pairs))
    (cases_lt most_term_bytes (length pair.term))
  where
    with_first : length pair.term ≤ most_term_bytes → All (λ pair. length pair.term ≤ most_term_bytes) pairs
        → All (λ pair. length pair.term ≤ most_term_bytes) (pair ∷ pairs)
    with_first s all zero d lt = s
    with_first s all (suc k) d lt = all k d (omega (arith, lt))

-- where a test of short terms fails
pub long_unless : (short : Bool) (low : Pair) (pairs : List Pair) → (IsTrue short ↔ AreShort low pairs) → short ≡ false → HasLongTerm low pairs
long_unless short low pairs exact fails =
    ⊎_elim (λ (all : AreShort low pairs). let so : short ≡ true = exact.1 all in absurd (cc)) (λ (long : HasLongTerm low pairs). long)
    (short_or_long low pairs)
