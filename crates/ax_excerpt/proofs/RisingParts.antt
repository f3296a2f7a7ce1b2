-- Members whose names rise, searched by halves, and one of them taken out or put in at its place.
use Rattle.std.proofs.Common.{◌≡◌, ℕ, ◌+◌, ◌<◌, ◌≤◌, zero, suc, List, [], ◌∷◌, ◌++◌, length, take, drop, get_or, Bool, true, false, ◌&&◌, Ordering, Less, Equal, Greater, refl, sym, ap, subst, ◌∙◌, arith, ◌⊎◌, inl, inr}
use Rattle.std.specs.Cmp.Lexicographic.{slice_cmp}
use Rattle.std.specs.List.Sorted.{IsNonDecreasingBy}
use Rattle.std.specs.Ordering.{nat_cmp, is_lt, is_eq, ordering_index, ordering_reverse}
use Rattle.std.proofs.lemmas.Bool.{and_parts, cases_lt}
use Rattle.std.proofs.lemmas.Cmp.{nat_list_cmp_total}
use Rattle.std.proofs.lemmas.Map.Text.{is_eq-slice_cmp}
use Rattle.std.proofs.lemmas.Slice.Eq.{bytes_eq-Decides}
use Rattle.ax_tree.specs.Names.{names, HaveRisingNames}
use Rattle.ax_tree.specs.Rising.{is_rising}
use Rattle.ax_tree.specs.declared.members.Member.{Member}
use Rattle.ax_excerpt.specs.declared.excerpt.Excerpt.{Excerpt}
use Rattle.ax_excerpt.specs.Openings.{HasRoom, put_at}

abbrev cmp : List ℕ → List ℕ → Ordering
cmp = slice_cmp nat_cmp

pub both_true : (a b : Bool) → a ≡ true → b ≡ true → (a && b) ≡ true
both_true true b e f = f
both_true false b e f = e

pub is_lt_Less : (o : Ordering) → is_lt o ≡ true → o ≡ Less
is_lt_Less Less e = refl
is_lt_Less Equal e = absurd (cc)
is_lt_Less Greater e = absurd (cc)

pub same_from_Equal : (a b : List ℕ) → cmp a b ≡ Equal → a ≡ b
same_from_Equal a b e = (bytes_eq-Decides a b).0 (sym (is_eq-slice_cmp a b) ∙ ap is_eq e)

-- ---- searching by halves

pub skipped : {T : Type 0} (first next : Member T) (rest : List (Member T))
    → HaveRisingNames (first ∷ next ∷ rest) → HaveRisingNames (first ∷ rest)
skipped first next [] r = refl
skipped first next (third ∷ rest) r =
    let one = and_parts (is_lt (cmp first.name next.name)) _ r in
    let two = and_parts (is_lt (cmp next.name third.name)) _ one.1 in
    both_true (is_lt (cmp first.name third.name)) _
    (ap is_lt (nat_list_cmp_total.trans first.name next.name third.name (is_lt_Less _ one.0)
    (is_lt_Less _ two.0)))
    two.1

pub later : {T : Type 0} (first : Member T) (rest : List (Member T)) → HaveRisingNames (first ∷ rest)
    → HaveRisingNames rest
later first [] r = refl
later first (next ∷ rest) r = (and_parts (is_lt (cmp first.name next.name)) _ r).1

after : {T : Type 0} (first : Member T) (rest : List (Member T)) (d : Member T)
    → HaveRisingNames (first ∷ rest) → (k : ℕ) → k < length rest
    → cmp first.name (get_or rest k d).name ≡ Less
after first [] d r k h = absurd (omega arith)
after first (next ∷ rest) d r zero h =
    is_lt_Less _ (and_parts (is_lt (cmp first.name next.name)) _ r).0
after first (next ∷ rest) d r (suc k) h =
    after first rest d (skipped first next rest r) k (omega arith)

rises : {T : Type 0} (parts : List (Member T)) (d : Member T) → HaveRisingNames parts → (i j : ℕ)
    → i < j → j < length parts → cmp (get_or parts i d).name (get_or parts j d).name ≡ Less
rises [] d r i j h k = absurd (omega arith)
rises (first ∷ rest) d r i zero h k = absurd (omega arith)
rises (first ∷ rest) d r zero (suc j) h k = after first rest d r j (omega arith)
rises (first ∷ rest) d r (suc i) (suc j) h k =
    rises rest d (later first rest r) i j (omega arith) (omega arith)

most_is_two : (o : Ordering) → ordering_index o ≤ 2
most_is_two Less = omega arith
most_is_two Equal = omega arith
most_is_two Greater = omega arith

-- against a text, an earlier name is no later than another
no_later : (a b key : List ℕ) → cmp a b ≡ Less → (o : Ordering) → cmp b key ≡ o
    → ordering_index (cmp a key) ≤ ordering_index (cmp b key)
no_later a b key e Less f =
    let less : cmp a key ≡ Less = nat_list_cmp_total.trans a b key e f in
    rw (less, f) (omega arith)
no_later a b key e Equal f =
    let same : b ≡ key = same_from_Equal b key f in
    let less : cmp a key ≡ Less = subst (λ k. cmp a k ≡ Less) same e in
    rw (less, f) (omega arith)
no_later a b key e Greater f = rw f (most_is_two (cmp a key))

pub no_fall : {T : Type 0} (parts : List (Member T)) (key : List ℕ) → HaveRisingNames parts
    → IsNonDecreasingBy (λ y. ordering_index (slice_cmp nat_cmp y.name key)) parts
no_fall parts key r i j d h k = by_place (cases_lt i j)
  where
    by_place : (i < j) ⊎ (j ≤ i) → ordering_index (cmp (get_or parts i d).name key)
        ≤ ordering_index (cmp (get_or parts j d).name key)
    by_place (inl below) =
        no_later (get_or parts i d).name (get_or parts j d).name key (rises parts d r i j below k)
        (cmp (get_or parts j d).name key) refl
    by_place (inr above) =
        let same : i ≡ j = omega arith in
        rw same (omega arith)

-- ---- one put in

before_it : (a b : List ℕ) → cmp b a ≡ Greater → cmp a b ≡ Less
before_it a b e = nat_list_cmp_total.antisymm a b ∙ ap ordering_reverse e

put_rises : {T : Type 0} (parts : List (Member T)) (m : Member T) (at : ℕ) → HaveRisingNames parts
    → ((k : ℕ) (d : Member T) → k < at → k < length parts → cmp (get_or parts k d).name m.name ≡ Less)
    → ((k : ℕ) (d : Member T) → at ≤ k → k < length parts → cmp (get_or parts k d).name m.name ≡ Greater)
    → HaveRisingNames (take at parts ++ m ∷ drop at parts)
put_rises [] m zero r b f = refl
put_rises [] m (suc at) r b f = refl
put_rises (x ∷ xs) m zero r b f =
    both_true (is_lt (cmp m.name x.name)) _
    (ap is_lt (before_it m.name x.name (f 0 x (omega arith) (omega arith)))) r
put_rises (x ∷ []) m (suc at) r b f =
    at_end at (ap is_lt (b 0 x (omega arith) (omega arith)))
  where
    at_end : (at : ℕ) → is_lt (cmp x.name m.name) ≡ true
        → HaveRisingNames (x ∷ (take at [] ++ m ∷ drop at []))
    at_end zero l = both_true (is_lt (cmp x.name m.name)) true l refl
    at_end (suc at) l = both_true (is_lt (cmp x.name m.name)) true l refl
put_rises (x ∷ y ∷ xs) m (suc zero) r b f =
    both_true (is_lt (cmp x.name m.name)) _ (ap is_lt (b 0 x (omega arith) (omega arith)))
    (put_rises (y ∷ xs) m zero (and_parts (is_lt (cmp x.name y.name)) _ r).1
    (λ k d l h. absurd (omega arith)) (λ k d l h. f (suc k) d (omega arith) (omega arith)))
put_rises (x ∷ y ∷ xs) m (suc (suc at)) r b f =
    let parts = and_parts (is_lt (cmp x.name y.name)) _ r in
    both_true (is_lt (cmp x.name y.name)) _ parts.0
    (put_rises (y ∷ xs) m (suc at) parts.1
    (λ k d l h. b (suc k) d (omega arith) (omega arith)) (λ k d l h. f (suc k) d (omega arith) (omega arith)))

pub new_room : (parts : List (Member Excerpt)) (name : List ℕ) (at : ℕ) → HaveRisingNames parts
    → at ≤ length parts
    → ((k : ℕ) (d : Member Excerpt) → k < at → k < length parts → slice_cmp nat_cmp (get_or parts k d).name name ≡ Less)
    → ((k : ℕ) (d : Member Excerpt) → at ≤ k → k < length parts → slice_cmp nat_cmp (get_or parts k d).name name ≡ Greater)
    → HasRoom name parts at
new_room parts name at r h before behind = record {
  within = h;
  rise = λ part. put_rises parts (record { name = name; value = part }) at r before behind;
}

-- ---- one taken out

parted_there : {X : Type 0} (xs : List X) (at : ℕ) (d : X) → at < length xs
    → take at xs ++ get_or xs at d ∷ drop (suc at) xs ≡ xs
parted_there [] at d h = absurd (omega arith)
parted_there (x ∷ xs) zero d h = refl
parted_there (x ∷ xs) (suc at) d h = ap (λ l. x ∷ l) (parted_there xs at d (omega arith))

pub parted : {X : Type 0} (xs : List X) (at : ℕ) (d : X) → at < length xs
    → take at xs ++ get_or xs at d ∷ drop (at + 1) xs ≡ xs
parted xs at d h =
    let next : at + 1 ≡ suc at = omega arith in
    ap (λ n. take at xs ++ get_or xs at d ∷ drop n xs) next ∙ parted_there xs at d h

front_again : {X : Type 0} (xs ys : List X) (at : ℕ) → at ≤ length xs
    → take at (take at xs ++ ys) ≡ take at xs
front_again xs ys zero h = refl
front_again [] ys (suc at) h = absurd (omega arith)
front_again (x ∷ xs) ys (suc at) h = ap (λ l. x ∷ l) (front_again xs ys at (omega arith))

rest_again : {X : Type 0} (xs ys : List X) (at : ℕ) → at ≤ length xs
    → drop at (take at xs ++ ys) ≡ ys
rest_again xs ys zero h = refl
rest_again [] ys (suc at) h = absurd (omega arith)
rest_again (x ∷ xs) ys (suc at) h = rest_again xs ys at (omega arith)

bound_again : {X : Type 0} (xs ys : List X) (at : ℕ) → at ≤ length xs
    → at ≤ length (take at xs ++ ys)
bound_again xs ys zero h = omega arith
bound_again [] ys (suc at) h = absurd (omega arith)
bound_again (x ∷ xs) ys (suc at) h = omega (arith, bound_again xs ys at (omega arith))

same_names : {T : Type 0} (front rest : List (Member T)) (a b : Member T) → a.name ≡ b.name
    → names (front ++ a ∷ rest) ≡ names (front ++ b ∷ rest)
same_names [] rest a b e = ap (λ n. n ∷ names rest) e
same_names (m ∷ front) rest a b e = ap (λ l. m.name ∷ l) (same_names front rest a b e)

pub put_back : (whole parts : List (Member Excerpt)) (name : List ℕ) (at : ℕ) (part : Excerpt)
    → at ≤ length whole → parts ≡ take at whole ++ drop (at + 1) whole
    → put_at at name part parts
    ≡ take at whole ++ record { name = name; value = part } ∷ drop (at + 1) whole
put_back whole parts name at part h e =
    ap (put_at at name part) e
    ∙ ap (λ l. l ++ record { name = name; value = part } ∷ drop at (take at whole ++ drop (at + 1) whole))
    (front_again whole (drop (at + 1) whole) at h)
    ∙ ap (λ l. take at whole ++ record { name = name; value = part } ∷ l)
    (rest_again whole (drop (at + 1) whole) at h)

pub old_room : (whole parts : List (Member Excerpt)) (at : ℕ) (m : Member Excerpt)
    → HaveRisingNames whole → at < length whole → m ≡ get_or whole at m
    → parts ≡ take at whole ++ drop (at + 1) whole
    → HasRoom m.name parts at
old_room whole parts at m r there is e =
    let h : at ≤ length whole = omega (arith, there) in
    record {
      within = subst (λ l. at ≤ length l) (sym e) (bound_again whole (drop (at + 1) whole) at h);
      rise = λ part. ap (λ l. is_rising (names l)) (put_back whole parts m.name at part h e)
          ∙ ap is_rising (same_names (take at whole) (drop (at + 1) whole)
          (record { name = m.name; value = part }) (get_or whole at m) (ap (λ (x : Member Excerpt). x.name) is))
          ∙ ap (λ l. is_rising (names l)) (parted whole at m there) ∙ r;
    }
