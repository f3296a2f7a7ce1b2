-- Names are distinct just where no two that stand side by side are the same, once they are in order.
use Rattle.std.proofs.Common.{◌≡◌, ◌≤◌, ◌+◌, ℕ, List, [], ◌∷◌, Bool, true, false, ◌&&◌, ◌||◌, not, cond, refl, sym, ap, ap₂, ◌∙◌, subst, arith, if◌then◌else◌, sum_by}
use Rattle.std.specs.Cmp.Lexicographic.{slice_cmp}
use Rattle.std.specs.List.{AllByRecursion, IsDistinct, dedup_from}
use Rattle.std.specs.List.Sorted.{IsStrictlySortedBy, IsPermutation, IsSorted}
use Rattle.std.specs.Ordering.{nat_cmp, eq_by_cmp}
use Rattle.std.specs.Str.{bytes_eq}
use Rattle.std.proofs.lemmas.Bool.{and_parts, or_parts, false≢true, true≢false}
use Rattle.std.proofs.lemmas.Cmp.{nat_list_cmp_total}
use Rattle.std.proofs.lemmas.List.Kept.{IsStrictlySortedBy-dedup}
use Rattle.std.proofs.lemmas.List.Sorted.{sum_by-IsPermutation}
use Rattle.std.proofs.lemmas.List.Sums.{sum_by-cons}
use Rattle.std.proofs.lemmas.Map.Keys.{IsDistinct-from_sorted}
use Rattle.std.proofs.lemmas.Map.Text.{is_eq-slice_cmp}
use Rattle.std.proofs.lemmas.Slice.Eq.{bytes_eq-Decides}
use Rattle.ax_grammar.specs.Parts.{has}
use Rattle.ax_grammar.specs.Scope.{are_distinct}
use Rattle.ax_scope.specs.Neighbours.{differ_from, neighbours_differ}

abbrev Name : Type 0
Name = List ℕ

not_true : (a : Bool) → not a ≡ true → a ≡ false
not_true true h = absurd (false≢true h)
not_true false h = refl

both_ways : (a b : Bool) → (a ≡ true → b ≡ true) → (b ≡ true → a ≡ true) → a ≡ b
both_ways true b f g = sym (f refl)
both_ways false true f g = g refl
both_ways false false f g = refl

-- ---- how often a name stands among others

abbrev one_where : Bool → ℕ
one_where same = if same then 1 else 0

abbrev count : Name → List Name → ℕ
count x names = sum_by (λ y. one_where (bytes_eq x y)) names

count_more : (x y : Name) (ys : List Name)
    → count x (y ∷ ys) ≡ one_where (bytes_eq x y) + count x ys
count_more x y ys = sum_by-cons (λ y. one_where (bytes_eq x y)) y ys

absent : (x : Name) (ys : List Name) → has ys x ≡ false → count x ys ≡ 0
absent x [] h = refl
absent x (y ∷ ys) h =
    let p = or_parts (bytes_eq x y) (has ys x) h in
    count_more x y ys ∙ ap₂ (λ a n. one_where a + n) p.0 (absent x ys p.1)

present_by : (x y : Name) (ys : List Name) (same : Bool) → bytes_eq x y ≡ same
    → has (y ∷ ys) x ≡ true → (has ys x ≡ true → 1 ≤ count x ys) → 1 ≤ count x (y ∷ ys)
present_by x y ys true e h later = omega (arith, count_more x y ys, ap one_where e)
present_by x y ys false e h later =
    let more = later (sym (ap (λ a. a || has ys x) e) ∙ h) in
    omega (arith, count_more x y ys, ap one_where e, more)

present : (x : Name) (ys : List Name) → has ys x ≡ true → 1 ≤ count x ys
present x [] h = absurd (false≢true h)
present x (y ∷ ys) h = present_by x y ys (bytes_eq x y) refl h (present x ys)

once_by : (x y : Name) (ys : List Name) (same : Bool) → bytes_eq x y ≡ same
    → has ys y ≡ false → count x ys ≤ 1 → count x (y ∷ ys) ≤ 1
once_by x y ys true e none rest =
    let is = (bytes_eq-Decides x y).0 e in
    let no_more = absent x ys (ap (has ys) is ∙ none) in
    omega (arith, count_more x y ys, ap one_where e, no_more)
once_by x y ys false e none rest = omega (arith, count_more x y ys, ap one_where e, rest)

once : (names : List Name) → are_distinct names ≡ true → (x : Name) → count x names ≤ 1
once [] h x = omega arith
once (y ∷ ys) h x =
    let p = and_parts (not (has ys y)) (are_distinct ys) h in
    once_by x y ys (bytes_eq x y) refl (not_true (has ys y) p.0) (once ys p.1 x)

distinct_by : (y : Name) (ys : List Name) (there : Bool) → has ys y ≡ there
    → count y (y ∷ ys) ≤ 1 → are_distinct ys ≡ true → are_distinct (y ∷ ys) ≡ true
distinct_by y ys true e h rest =
    let more = present y ys e in
    let first = ap one_where ((bytes_eq-Decides y y).1 refl) in
    absurd (omega (arith, count_more y y ys, h, more, first))
distinct_by y ys false e h rest = ap₂ (λ a b. not a && b) e rest

distinct_if : (names : List Name) → ((x : Name) → count x names ≤ 1) → are_distinct names ≡ true
distinct_if [] h = refl
distinct_if (y ∷ ys) h =
    distinct_by y ys (has ys y) refl (h y)
    (distinct_if ys (λ x. omega (arith, count_more x y ys, h x)))

same_names : (names sorted : List Name) → IsPermutation names sorted
    → are_distinct sorted ≡ are_distinct names
same_names names sorted moved =
    both_ways (are_distinct sorted) (are_distinct names)
    (λ h. distinct_if names (λ x. omega (arith, once sorted h x, kept x)))
    (λ h. distinct_if sorted (λ x. omega (arith, once names h x, kept x)))
  where
    kept : (x : Name) → count x sorted ≡ count x names
    kept x = sum_by-IsPermutation (λ y. one_where (bytes_eq x y)) names sorted moved

-- ---- names in order

tied : (x y : Name) → bytes_eq x y ≡ eq_by_cmp (slice_cmp nat_cmp) x y
tied x y = sym (is_eq-slice_cmp x y)

all_kept : (last : Name) (names : List Name) → differ_from last names ≡ true
    → dedup_from bytes_eq last names ≡ last ∷ names
all_kept last [] h = refl
all_kept last (name ∷ names) h =
    let p = and_parts (not (bytes_eq name last)) (differ_from name names) h in
    ap
    (λ b. cond b (dedup_from bytes_eq last names) (last ∷ dedup_from bytes_eq name names))
    (not_true (bytes_eq name last) p.0)
    ∙ ap (λ rest. last ∷ rest) (all_kept name names p.1)

none_later : (x : Name) (ys : List Name)
    → AllByRecursion (λ y. eq_by_cmp (slice_cmp nat_cmp) x y ≡ false) ys → has ys x ≡ false
none_later x [] a = refl
none_later x (y ∷ ys) a = ap₂ (λ a b. a || b) (tied x y ∙ a.0) (none_later x ys a.1)

by_order : (names : List Name) → IsDistinct (eq_by_cmp (slice_cmp nat_cmp)) names
    → are_distinct names ≡ true
unfolding IsDistinct
by_order [] d = refl
by_order (x ∷ xs) d = ap₂ (λ a b. not a && b) (none_later x xs d.0) (by_order xs d.1)

from_neighbours : (names : List Name) → IsSorted (slice_cmp nat_cmp) names
    → neighbours_differ names ≡ true → are_distinct names ≡ true
from_neighbours [] s h = refl
from_neighbours (name ∷ names) s h =
    by_order (name ∷ names)
    (IsDistinct-from_sorted (slice_cmp nat_cmp) (name ∷ names)
    (subst (IsStrictlySortedBy (slice_cmp nat_cmp)) (all_kept name names h)
    (IsStrictlySortedBy-dedup nat_list_cmp_total tied (name ∷ names) s)))

differ_there : (last : Name) (names : List Name) → are_distinct (last ∷ names) ≡ true
    → differ_from last names ≡ true
differ_there last [] h = refl
differ_there last (name ∷ names) h =
    let p = and_parts (not (has (name ∷ names) last)) (are_distinct (name ∷ names)) h in
    let q = or_parts (bytes_eq last name) (has names last)
    (not_true (has (name ∷ names) last) p.0) in
    ap₂ (λ a b. not a && b) (flipped last name q.0) (differ_there name names p.1)
  where
    flipped : (x y : Name) → bytes_eq x y ≡ false → bytes_eq y x ≡ false
    flipped x y e = by (bytes_eq y x) refl
      where
        by : (same : Bool) → bytes_eq y x ≡ same → same ≡ false
        by true k =
            absurd
            (true≢false (sym ((bytes_eq-Decides x y).1 (sym ((bytes_eq-Decides y x).0 k))) ∙ e))
        by false k = refl

to_neighbours : (names : List Name) → are_distinct names ≡ true → neighbours_differ names ≡ true
to_neighbours [] h = refl
to_neighbours (name ∷ names) h = differ_there name names h

pub distinct_in_order : (names sorted : List Name) → IsPermutation names sorted
    → IsSorted (slice_cmp nat_cmp) sorted → neighbours_differ sorted ≡ are_distinct names
distinct_in_order names sorted moved s =
    both_ways (neighbours_differ sorted) (are_distinct sorted) (from_neighbours sorted s)
    (to_neighbours sorted)
    ∙ same_names names sorted moved
