-- Members whose names rise, searched by halves: where one is put, and where one is taken out.
use Rattle.std.proofs.Common.{◌≡◌, ℕ, ◌+◌, ◌<◌, ◌≤◌, zero, suc, List, [], ◌∷◌, ◌++◌, length, get_or, take, drop, Bool, true, false, cond, ◌&&◌, Ordering, Less, Equal, Greater, refl, sym, ap, ap₂, subst, ◌∙◌, arith, ◌⊎◌, inl, inr}
use Rattle.std.specs.Cmp.Lexicographic.{slice_cmp}
use Rattle.std.specs.List.Sorted.{IsNonDecreasingBy}
use Rattle.std.specs.Ordering.{nat_cmp, is_lt, is_eq, ordering_index, ordering_reverse}
use Rattle.std.specs.Str.{bytes_eq}
use Rattle.std.proofs.lemmas.Bool.{cases_lt}
use Rattle.std.proofs.lemmas.Cmp.{nat_list_cmp_total}
use Rattle.std.proofs.lemmas.Map.Text.{is_eq-slice_cmp}
use Rattle.std.proofs.lemmas.Slice.Eq.{bytes_eq-Decides}
use Rattle.ax_tree.specs.Names.{HaveRisingNames}
use Rattle.ax_tree.specs.declared.members.Member.{Member}
use Rattle.ax_tree.specs.declared.tree.Tree.{Tree}
use Rattle.ax_mean.specs.Building.{with_member}

abbrev cmp : List ℕ → List ℕ → Ordering
cmp = slice_cmp nat_cmp

both : (a b : Bool) → (a && b) ≡ true → (a ≡ true) × (b ≡ true)
both true true e = (refl, refl)
both true false e = absurd (cc)
both false b e = absurd (cc)

both_true : (a b : Bool) → a ≡ true → b ≡ true → (a && b) ≡ true
both_true true true e f = refl
both_true true false e f = f
both_true false b e f = e

is_lt_Less : (o : Ordering) → is_lt o ≡ true → o ≡ Less
is_lt_Less Less e = refl
is_lt_Less Equal e = absurd (cc)
is_lt_Less Greater e = absurd (cc)

is_eq_Equal : (o : Ordering) → is_eq o ≡ true → o ≡ Equal
is_eq_Equal Less e = absurd (cc)
is_eq_Equal Equal e = refl
is_eq_Equal Greater e = absurd (cc)

bytes_eq_same : (a : List ℕ) → bytes_eq a a ≡ true
bytes_eq_same a = (bytes_eq-Decides a a).1 refl

same_bytes : (a b : List ℕ) → bytes_eq a b ≡ true → a ≡ b
same_bytes a b e = (bytes_eq-Decides a b).0 e

pub same_from_Equal : (a b : List ℕ) → slice_cmp nat_cmp a b ≡ Equal → a ≡ b
same_from_Equal a b e = same_bytes a b (sym (is_eq-slice_cmp a b) ∙ ap is_eq e)

skipped : {T : Type 0} (first next : Member T) (rest : List (Member T))
    → HaveRisingNames (first ∷ next ∷ rest) → HaveRisingNames (first ∷ rest)
skipped first next [] r = refl
skipped first next (third ∷ rest) r =
    let one = both (is_lt (cmp first.name next.name)) _ r in
    let two = both (is_lt (cmp next.name third.name)) _ one.1 in
    both_true (is_lt (cmp first.name third.name)) _
    (ap is_lt (nat_list_cmp_total.trans first.name next.name third.name (is_lt_Less _ one.0)
    (is_lt_Less _ two.0)))
    two.1

later : {T : Type 0} (first : Member T) (rest : List (Member T)) → HaveRisingNames (first ∷ rest)
    → HaveRisingNames rest
later first [] r = refl
later first (next ∷ rest) r = (both (is_lt (cmp first.name next.name)) _ r).1

after : {T : Type 0} (first : Member T) (rest : List (Member T)) (d : Member T)
    → HaveRisingNames (first ∷ rest) → (k : ℕ) → k < length rest
    → cmp first.name (get_or rest k d).name ≡ Less
after first [] d r k h = absurd (omega arith)
after first (next ∷ rest) d r zero h = is_lt_Less _ (both (is_lt (cmp first.name next.name)) _ r).0
after first (next ∷ rest) d r (suc k) h =
    after first rest d (skipped first next rest r) k (omega arith)

rises : {T : Type 0} (members : List (Member T)) (d : Member T) → HaveRisingNames members → (i j : ℕ) → i < j
    → j < length members → cmp (get_or members i d).name (get_or members j d).name ≡ Less
rises [] d r i j h k = absurd (omega arith)
rises (first ∷ rest) d r i zero h k = absurd (omega arith)
rises (first ∷ rest) d r zero (suc j) h k = after first rest d r j (omega arith)
rises (first ∷ rest) d r (suc i) (suc j) h k =
    rises rest d (later first rest r) i j (omega arith) (omega arith)

-- a text before another is another text
apart : (a b : List ℕ) → cmp a b ≡ Less → bytes_eq b a ≡ false
apart a b e =
    sym (is_eq-slice_cmp b a) ∙ ap is_eq (nat_list_cmp_total.antisymm b a ∙ ap ordering_reverse e)

most_is_two : (o : Ordering) → ordering_index o ≤ 2
most_is_two Less = omega arith
most_is_two Equal = omega arith
most_is_two Greater = omega arith

-- against a text, an earlier rule is no later than another
no_later : (a b key : List ℕ) → cmp a b ≡ Less → (o : Ordering) → cmp b key ≡ o
    → ordering_index (cmp a key) ≤ ordering_index (cmp b key)
no_later a b key e Less f =
    let less : cmp a key ≡ Less = nat_list_cmp_total.trans a b key e f in
    rw (less, f) (omega arith)
no_later a b key e Equal f =
    let same : b ≡ key = same_from_Equal b key f in
    let less : cmp a key ≡ Less = subst (λ k. cmp a k ≡ Less) same e in
    rw (less, f) (omega arith)
no_later a b key e Greater f = rw f (most_is_two (cmp a key))

pub no_fall : {T : Type 0} (members : List (Member T)) (key : List ℕ) → HaveRisingNames members
    → IsNonDecreasingBy (λ y. ordering_index (slice_cmp nat_cmp y.name key)) members
no_fall members key r i j d h k = by_place (cases_lt i j)
  where
    by_place : (i < j) ⊎ (j ≤ i) → ordering_index (cmp (get_or members i d).name key)
        ≤ ordering_index (cmp (get_or members j d).name key)
    by_place (inl below) =
        no_later (get_or members i d).name (get_or members j d).name key (rises members d r i j below k)
        (cmp (get_or members j d).name key) refl
    by_place (inr above) =
        let same : i ≡ j = omega arith in
        rw same (omega arith)

-- the member of a name that was looked for
abbrev new : List ℕ → Tree → Member Tree
new name value = record { name = name; value = value }

-- the members with one put at its name, by the two tests
abbrev put_at : List ℕ → Tree → Member Tree → List (Member Tree) → Bool → Bool
    → List (Member Tree)
put_at name value m ms same before =
    cond same (new name value ∷ ms)
    (cond before (new name value ∷ m ∷ ms) (m ∷ with_member name value ms))

turned : (a b : List ℕ) (o : Ordering) → cmp a b ≡ o → cmp b a ≡ ordering_reverse o
turned a b o e = nat_list_cmp_total.antisymm b a ∙ ap ordering_reverse e

put_behind : (name : List ℕ) (value : Tree) (m : Member Tree) (ms : List (Member Tree))
    → cmp m.name name ≡ Less → with_member name value (m ∷ ms) ≡ m ∷ with_member name value ms
put_behind name value m ms e =
    ap₂ (λ a b. put_at name value m ms a b) (apart m.name name e)
    (ap is_lt (turned m.name name Less e))

put_before : (name : List ℕ) (value : Tree) (m : Member Tree) (ms : List (Member Tree))
    → cmp m.name name ≡ Greater → with_member name value (m ∷ ms) ≡ new name value ∷ m ∷ ms
put_before name value m ms e =
    let less : cmp name m.name ≡ Less = turned m.name name Greater e in
    ap₂ (λ a b. put_at name value m ms a b)
    (sym (is_eq-slice_cmp name m.name) ∙ ap is_eq less) (ap is_lt less)

put_over : (name : List ℕ) (value : Tree) (m : Member Tree) (ms : List (Member Tree))
    → m.name ≡ name → with_member name value (m ∷ ms) ≡ new name value ∷ ms
put_over name value m ms e =
    ap (λ a. put_at name value m ms a (is_lt (cmp name m.name)))
    ((bytes_eq-Decides name m.name).1 (sym e))

one_more : (k : ℕ) → suc k + 1 ≡ suc (k + 1)
one_more k = omega arith

-- the name stands behind the first member, where it stands later
behind_first : (m : Member Tree) (ms : List (Member Tree)) (name : List ℕ)
    → HaveRisingNames (m ∷ ms) → (k : ℕ) → k < length ms
    → ((d : Member Tree) → (get_or ms k d).name ≡ name) → cmp m.name name ≡ Less
behind_first m ms name r k h e = subst (λ n. cmp m.name n ≡ Less) (e m) (after m ms m r k h)

pub put_where_found : (name : List ℕ) (value : Tree) (ms : List (Member Tree))
    → HaveRisingNames ms → (at : ℕ) → at < length ms
    → ((d : Member Tree) → (get_or ms at d).name ≡ name)
    → with_member name value ms ≡ take at ms ++ new name value ∷ drop (at + 1) ms
put_where_found name value [] r at h e = absurd (omega (arith, h))
put_where_found name value (m ∷ ms) r zero h e = put_over name value m ms (e m)
put_where_found name value (m ∷ ms) r (suc k) h e =
    let l : k < length ms = omega (arith, h) in
    put_behind name value m ms (behind_first m ms name r k l e)
    ∙ ap (λ l. m ∷ l) (put_where_found name value ms (later m ms r) k l e)
    ∙ ap (λ n. m ∷ take k ms ++ new name value ∷ drop n (m ∷ ms)) (sym (one_more k))

pub put_where_free : (name : List ℕ) (value : Tree) (ms : List (Member Tree)) (at : ℕ)
    → at ≤ length ms
    → ((k : ℕ) (d : Member Tree) → k < at → cmp (get_or ms k d).name name ≡ Less)
    → ((k : ℕ) (d : Member Tree) → at ≤ k → k < length ms
    → cmp (get_or ms k d).name name ≡ Greater)
    → with_member name value ms ≡ take at ms ++ new name value ∷ drop at ms
put_where_free name value [] zero h before behind = refl
put_where_free name value [] (suc k) h before behind = absurd (omega (arith, h))
put_where_free name value (m ∷ ms) zero h before behind =
    put_before name value m ms (behind zero m (omega arith) (omega arith))
put_where_free name value (m ∷ ms) (suc at) h before behind =
    put_behind name value m ms (before zero m (omega arith))
    ∙ ap (λ l. m ∷ l)
    (put_where_free name value ms at (omega (arith, h))
    (λ k d l. before (suc k) d (omega (arith, l)))
    (λ k d l n. behind (suc k) d (omega (arith, l)) (omega (arith, n))))
