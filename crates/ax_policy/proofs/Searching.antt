-- Rules whose texts rise, searched by halves: where one is found, it is the rule under its text.
use Rattle.std.proofs.Common.{◌≡◌, ℕ, ◌<◌, ◌≤◌, zero, suc, List, [], ◌∷◌, length, get_or, Bool, true, false, cond, ◌&&◌, Option, Some, None, Ordering, Less, Equal, Greater, refl, sym, ap, subst, ◌∙◌, arith, ◌⊎◌, inl, inr}
use Rattle.std.specs.Cmp.Lexicographic.{slice_cmp}
use Rattle.std.specs.List.Sorted.{IsNonDecreasingBy}
use Rattle.std.specs.Ordering.{nat_cmp, is_lt, is_eq, ordering_index, ordering_reverse}
use Rattle.std.specs.Str.{bytes_eq}
use Rattle.std.proofs.lemmas.Bool.{cases_lt}
use Rattle.std.proofs.lemmas.Cmp.{nat_list_cmp_total}
use Rattle.std.proofs.lemmas.Map.Text.{is_eq-slice_cmp}
use Rattle.std.proofs.lemmas.Slice.Eq.{bytes_eq-Decides}
use Rattle.ax_tree.specs.Names.{HaveRisingNames}
use Rattle.ax_tree.specs.declared.members.Member.{Member}
use Rattle.ax_policy.specs.Rules.{under}

abbrev cmp : List ℕ → List ℕ → Ordering
cmp = slice_cmp nat_cmp

pub both : (a b : Bool) → (a && b) ≡ true → (a ≡ true) × (b ≡ true)
both true true e = (refl, refl)
both true false e = absurd (cc)
both false b e = absurd (cc)

pub both_true : (a b : Bool) → a ≡ true → b ≡ true → (a && b) ≡ true
both_true true true e f = refl
both_true true false e f = f
both_true false b e f = e

pub is_lt_Less : (o : Ordering) → is_lt o ≡ true → o ≡ Less
is_lt_Less Less e = refl
is_lt_Less Equal e = absurd (cc)
is_lt_Less Greater e = absurd (cc)

is_eq_Equal : (o : Ordering) → is_eq o ≡ true → o ≡ Equal
is_eq_Equal Less e = absurd (cc)
is_eq_Equal Equal e = refl
is_eq_Equal Greater e = absurd (cc)

pub bytes_eq_same : (a : List ℕ) → bytes_eq a a ≡ true
bytes_eq_same a = (bytes_eq-Decides a a).1 refl

pub same_bytes : (a b : List ℕ) → bytes_eq a b ≡ true → a ≡ b
same_bytes a b e = (bytes_eq-Decides a b).0 e

pub cmp_same : (a : List ℕ) → slice_cmp nat_cmp a a ≡ Equal
cmp_same a = is_eq_Equal (cmp a a) (is_eq-slice_cmp a a ∙ bytes_eq_same a)

pub same_from_Equal : (a b : List ℕ) → slice_cmp nat_cmp a b ≡ Equal → a ≡ b
same_from_Equal a b e = same_bytes a b (sym (is_eq-slice_cmp a b) ∙ ap is_eq e)

-- ---- rising texts

pub skipped : {T : Type 0} (first next : Member T) (rest : List (Member T))
    → HaveRisingNames (first ∷ next ∷ rest) → HaveRisingNames (first ∷ rest)
skipped first next [] r = refl
skipped first next (third ∷ rest) r =
    let one = both (is_lt (cmp first.name next.name)) _ r in
    let two = both (is_lt (cmp next.name third.name)) _ one.1 in
    both_true (is_lt (cmp first.name third.name)) _
    (ap is_lt (nat_list_cmp_total.trans first.name next.name third.name (is_lt_Less _ one.0)
    (is_lt_Less _ two.0)))
    two.1

pub later : {T : Type 0} (first : Member T) (rest : List (Member T)) → HaveRisingNames (first ∷ rest)
    → HaveRisingNames rest
later first [] r = refl
later first (next ∷ rest) r = (both (is_lt (cmp first.name next.name)) _ r).1

pub after : {T : Type 0} (first : Member T) (rest : List (Member T)) (d : Member T)
    → HaveRisingNames (first ∷ rest) → (k : ℕ) → k < length rest
    → cmp first.name (get_or rest k d).name ≡ Less
after first [] d r k h = absurd (omega arith)
after first (next ∷ rest) d r zero h = is_lt_Less _ (both (is_lt (cmp first.name next.name)) _ r).0
after first (next ∷ rest) d r (suc k) h =
    after first rest d (skipped first next rest r) k (omega arith)

pub rises : {T : Type 0} (rules : List (Member T)) (d : Member T) → HaveRisingNames rules → (i j : ℕ) → i < j
    → j < length rules → cmp (get_or rules i d).name (get_or rules j d).name ≡ Less
rises [] d r i j h k = absurd (omega arith)
rises (first ∷ rest) d r i zero h k = absurd (omega arith)
rises (first ∷ rest) d r zero (suc j) h k = after first rest d r j (omega arith)
rises (first ∷ rest) d r (suc i) (suc j) h k =
    rises rest d (later first rest r) i j (omega arith) (omega arith)

-- a text before another is another text
pub apart : (a b : List ℕ) → cmp a b ≡ Less → bytes_eq b a ≡ false
apart a b e =
    sym (is_eq-slice_cmp b a) ∙ ap is_eq (nat_list_cmp_total.antisymm b a ∙ ap ordering_reverse e)

-- each rule stands under its text
pub under_at : {T : Type 0} (rules : List (Member T)) (d : Member T) → HaveRisingNames rules → (k : ℕ)
    → k < length rules → under (get_or rules k d).name rules ≡ Some (get_or rules k d).value
under_at [] d r k h = absurd (omega arith)
under_at (first ∷ rest) d r zero h = rw (bytes_eq_same first.name) refl
under_at (first ∷ rest) d r (suc k) h =
    rw (apart first.name (get_or rest k d).name (after first rest d r k (omega arith)))
    (under_at rest d (later first rest r) k (omega arith))

abbrev pub no_flag : Option Bool
no_flag = None

pub under_none : {T : Type 0} (key : List ℕ) (rules : List (Member T))
    → ((k : ℕ) (d : Member T) → k < length rules → cmp (get_or rules k d).name key ≡ Equal → ⊥)
    → under key rules ≡ None
under_none key [] n = refl
under_none key (first ∷ rest) n = by_test (bytes_eq key first.name) refl
    (under_none key rest (λ k d h e. n (suc k) d (omega arith) e))
  where
    by_test : (b : Bool) → bytes_eq key first.name ≡ b → under key rest ≡ None
        → cond b (Some first.value) (under key rest) ≡ None
    by_test true e later =
        let same : key ≡ first.name = same_bytes key first.name e in
        absurd (n 0 first (omega arith) (ap (λ k. cmp first.name k) same ∙ cmp_same first.name))
    by_test false e later = later

pub first_absent : {T : Type 0} (first : Member T) (rest : List (Member T)) → HaveRisingNames (first ∷ rest)
    → under first.name rest ≡ None
first_absent first rest r =
    under_none first.name rest (λ k d h e.
    let less : cmp first.name (get_or rest k d).name ≡ Less = after first rest d r k h in
    let more : cmp (get_or rest k d).name first.name ≡ Greater =
    nat_list_cmp_total.antisymm (get_or rest k d).name first.name ∙ ap ordering_reverse less in
    cc)

most_is_two : (o : Ordering) → ordering_index o ≤ 2
most_is_two Less = omega arith
most_is_two Equal = omega arith
most_is_two Greater = omega arith

-- against a text, an earlier rule is no later than another
pub no_later : (a b key : List ℕ) → cmp a b ≡ Less → (o : Ordering) → cmp b key ≡ o
    → ordering_index (cmp a key) ≤ ordering_index (cmp b key)
no_later a b key e Less f =
    let less : cmp a key ≡ Less = nat_list_cmp_total.trans a b key e f in
    rw (less, f) (omega arith)
no_later a b key e Equal f =
    let same : b ≡ key = same_from_Equal b key f in
    let less : cmp a key ≡ Less = subst (λ k. cmp a k ≡ Less) same e in
    rw (less, f) (omega arith)
no_later a b key e Greater f = rw f (most_is_two (cmp a key))

pub no_fall : {T : Type 0} (rules : List (Member T)) (key : List ℕ) → HaveRisingNames rules
    → IsNonDecreasingBy (λ y. ordering_index (slice_cmp nat_cmp y.name key)) rules
no_fall rules key r i j d h k = by_place (cases_lt i j)
  where
    by_place : (i < j) ⊎ (j ≤ i) → ordering_index (cmp (get_or rules i d).name key)
        ≤ ordering_index (cmp (get_or rules j d).name key)
    by_place (inl below) =
        no_later (get_or rules i d).name (get_or rules j d).name key (rises rules d r i j below k)
        (cmp (get_or rules j d).name key) refl
    by_place (inr above) =
        let same : i ≡ j = omega arith in
        rw same (omega arith)
