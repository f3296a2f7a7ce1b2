-- What one pass over the numbers finds for a new policy: how many others are in use, and the least
-- numbers that it may have; and that there is one of these where fewer than eight others are in use.
use Rattle.std.proofs.Common.{◌≡◌, ℕ, ◌+◌, ◌<◌, ◌≤◌, ◌==◌, zero, suc, List, [], ◌∷◌, length, Bool, true, false, cond, not, ◌&&◌, ◌||◌, Option, Some, None, count_by, find, zero-add, refl, sym, ap, ◌∙◌, arith, ◌≢◌, true≢false, ◌⊎◌, inl, inr, ⊎_elim}
use Rattle.std.specs.List.{range_with_len, list_all, list_any}
use Rattle.std.specs.Prelude.{nat_le, nat_lt}
use Rattle.std.proofs.lemmas.List.Sums.{sum_by-cons}
use Rattle.std.proofs.lemmas.Bool.{ne_eqb, eqb-true, eq-eqb, leb-true, ltb-true, ltb-false}
use Rattle.ax_policy.specs.declared.number_use.NumberUse.{NumberUse}
use Rattle.ax_policy.specs.declared.number_use.NumberUse.TheVariants.{Free, Same, Other, Idle}
use Rattle.ax_policy.specs.declared.number_use.NumbersFound.{NumbersFound}
use Rattle.ax_policy.specs.declared.policy.Policy.{Policy}
use Rattle.ax_policy.specs.Normal.{normal_text}
use Rattle.ax_policy.specs.Paths.{either}
use Rattle.ax_policy.specs.NumberUses.{use_of, with_use, with_uses, nothing_found, number_of}
use Rattle.ax_policy.specs.Table.{Table, numbers, policy_at, is_used, is_free, is_same, is_other, is_text_of, most_others, number_for, others_in_use, IsGiven}
use Rattle.ax_policy.proofs.Searching.{both}

-- a use by what is known of its number: in use, now, of the same normal text
abbrev use_by : Bool → Bool → Bool → NumberUse
use_by used now has = cond (used || now) (cond has Same (cond used Other Idle)) Free

-- ---- how many others are in use

others_step : (used now has : Bool) (p : NumbersFound) (n : ℕ)
    → (with_use p n (use_by used now has)).others ≡ p.others + cond (used && not has) 1 0
others_step true now true p n = omega arith
others_step true now false p n = refl
others_step false true true p n = omega arith
others_step false true false p n = omega arith
others_step false false has p n = omega arith

pub others_found : (text : List ℕ) (table : Table) (ns : List ℕ) (p : NumbersFound)
    → (with_uses text table p ns).others ≡ p.others + count_by (is_other text table) ns
others_found text table [] p = omega arith
others_found text table (n ∷ ns) p =
    let later = others_found text table ns (with_use p n (use_of text table n)) in
    let step = others_step (is_used table n) (n == table.current) (is_text_of text (policy_at table n)) p n in
    omega (arith, later, step, sum_by-cons (λ m. cond (is_other text table m) 1 0) n ns)

-- ---- the least of the same normal text, and the least that is free

-- what was found, and else this number, where it passes
abbrev or_this : Bool → ℕ → Option ℕ → Option ℕ
or_this passes n found = cond passes (either found (Some n)) found

moved : (passes : Bool) (n : ℕ) (found rest : Option ℕ)
    → either (or_this passes n found) rest ≡ either found (cond passes (Some n) rest)
moved true n None rest = refl
moved true n (Some m) rest = refl
moved false n found rest = refl

same_step : (used now has : Bool) (p : NumbersFound) (n : ℕ)
    → (with_use p n (use_by used now has)).same ≡ or_this ((used || now) && has) n p.same
same_step true now true p n = refl
same_step true now false p n = refl
same_step false true true p n = refl
same_step false true false p n = refl
same_step false false has p n = refl

free_step : (used now has : Bool) (p : NumbersFound) (n : ℕ)
    → (with_use p n (use_by used now has)).free ≡ or_this (not (used || now)) n p.free
free_step true now true p n = refl
free_step true now false p n = refl
free_step false true true p n = refl
free_step false true false p n = refl
free_step false false has p n = refl

end_of : (found : Option ℕ) → found ≡ either found None
end_of None = refl
end_of (Some n) = refl

pub same_found : (text : List ℕ) (table : Table) (ns : List ℕ) (p : NumbersFound)
    → (with_uses text table p ns).same ≡ either p.same (find (is_same text table) ns)
same_found text table [] p = end_of p.same
same_found text table (n ∷ ns) p =
    same_found text table ns (with_use p n (use_of text table n))
    ∙ ap (λ found. either found (find (is_same text table) ns))
    (same_step (is_used table n) (n == table.current) (is_text_of text (policy_at table n)) p n)
    ∙ moved (is_same text table n) n p.same (find (is_same text table) ns)

pub free_found : (text : List ℕ) (table : Table) (ns : List ℕ) (p : NumbersFound)
    → (with_uses text table p ns).free ≡ either p.free (find (is_free table) ns)
free_found text table [] p = end_of p.free
free_found text table (n ∷ ns) p =
    free_found text table ns (with_use p n (use_of text table n))
    ∙ ap (λ found. either found (find (is_free table) ns))
    (free_step (is_used table n) (n == table.current) (is_text_of text (policy_at table n)) p n)
    ∙ moved (is_free table n) n p.free (find (is_free table) ns)

-- ---- where no number is found, eight others are in use

abbrev is_now : ℕ → ℕ → Bool
is_now now n = n == now

none_before : (now a k : ℕ) → now < a → count_by (is_now now) (range_with_len a k) ≡ 0
none_before now a zero h = refl
none_before now a (suc k) h =
    let apart : (a == now) ≡ false = ne_eqb a now (λ e. omega arith) in
    sum_by-cons (λ n. cond (is_now now n) 1 0) a (range_with_len (a + 1) k)
    ∙ ap (λ b. cond b 1 0 + count_by (is_now now) (range_with_len (a + 1) k)) apart
    ∙ zero-add _ ∙ none_before now (a + 1) k (omega arith)

one_at_most : (now a k : ℕ) → count_by (is_now now) (range_with_len a k) ≤ 1
one_at_most now a zero = omega arith
one_at_most now a (suc k) =
    let one = by_test (a == now) refl (one_at_most now (a + 1) k) in
    omega (arith, one, sum_by-cons (λ n. cond (is_now now n) 1 0) a (range_with_len (a + 1) k))
  where
    by_test : (b : Bool) → (a == now) ≡ b → count_by (is_now now) (range_with_len (a + 1) k) ≤ 1
        → cond b 1 0 + count_by (is_now now) (range_with_len (a + 1) k) ≤ 1
    by_test true e later =
        let same : a ≡ now = eqb-true a now e in
        omega (arith, none_before now (a + 1) k (omega arith))
    by_test false e later = omega arith

not_found : (b : Bool) (n : ℕ) (rest : Option ℕ) → cond b (Some n) rest ≡ None
    → (b ≡ false) × (rest ≡ None)
not_found true n rest e = absurd (cc)
not_found false n rest e = (refl, e)

counted : (used now has : Bool) (others nows size : ℕ) → ((used || now) && has) ≡ false
    → not (used || now) ≡ false → size ≤ others + nows
    → 1 + size ≤ (cond (used && not has) 1 0 + others) + (cond now 1 0 + nows)
counted true now true others nows size s f h = absurd (cc)
counted true true false others nows size s f h = omega arith
counted true false false others nows size s f h = omega arith
counted false true true others nows size s f h = absurd (cc)
counted false true false others nows size s f h = omega arith
counted false false has others nows size s f h = absurd (cc)

all_counted : (text : List ℕ) (table : Table) (ns : List ℕ) → find (is_same text table) ns ≡ None
    → find (is_free table) ns ≡ None
    → length ns ≤ count_by (is_other text table) ns + count_by (is_now table.current) ns
all_counted text table [] s f = omega arith
all_counted text table (n ∷ ns) s f =
    let same = not_found (is_same text table n) n (find (is_same text table) ns) s in
    let free = not_found (is_free table n) n (find (is_free table) ns) f in
    let later = counted (is_used table n) (n == table.current) (is_text_of text (policy_at table n))
    (count_by (is_other text table) ns) (count_by (is_now table.current) ns) (length ns) same.0 free.0
    (all_counted text table ns same.1 free.1) in
    omega (
      arith,
      later,
      sum_by-cons (λ m. cond (is_other text table m) 1 0) n ns,
      sum_by-cons (λ m. cond (is_now table.current m) 1 0) n ns,
    )

neither : (one other : Option ℕ) → either one other ≡ None → (one ≡ None) × (other ≡ None)
neither None other e = (refl, e)
neither (Some n) other e = absurd (cc)

pub eight_others : (text : List ℕ) (table : Table)
    → either (find (is_same text table) numbers) (find (is_free table) numbers) ≡ None
    → 8 ≤ count_by (is_other text table) numbers
unfolding numbers
eight_others text table e =
    let none = neither (find (is_same text table) numbers) (find (is_free table) numbers) e in
    let all : 9 ≤ count_by (is_other text table) numbers + count_by (is_now table.current) numbers =
    all_counted text table numbers none.0 none.1 in
    let one : count_by (is_now table.current) numbers ≤ 1 = one_at_most table.current 0 9 in
    omega (arith, all, one)

-- ---- a number that is found

abbrev pub this : ℕ → Option ℕ
this n = Some n

pub found_passes : (test : ℕ → Bool) (ns : List ℕ) (n : ℕ) → find test ns ≡ this n → test n ≡ true
found_passes test [] n e = absurd (cc)
found_passes test (m ∷ ns) n e = by_test (test m) refl e (found_passes test ns n)
  where
    by_test : (b : Bool) → test m ≡ b → cond b (this m) (find test ns) ≡ this n
        → (find test ns ≡ this n → test n ≡ true) → test n ≡ true
    by_test true passes e later = let same : m ≡ n = cc in ap test (sym same) ∙ passes
    by_test false passes e later = later e

pub found_within : (test : ℕ → Bool) (most : ℕ) (ns : List ℕ) (n : ℕ)
    → list_all (λ m. nat_le m most) ns ≡ true → find test ns ≡ this n → n ≤ most
found_within test most [] n h e = absurd (cc)
found_within test most (m ∷ ns) n h e =
    let parts = both (nat_le m most) (list_all (λ m. nat_le m most) ns) h in
    by_test (test m) (leb-true m most parts.0) e (found_within test most ns n parts.1)
  where
    by_test : (b : Bool) → m ≤ most → cond b (this m) (find test ns) ≡ this n
        → (find test ns ≡ this n → n ≤ most) → n ≤ most
    by_test true h e later = let same : m ≡ n = cc in omega arith
    by_test false h e later = later e

pub within_eight : (test : ℕ → Bool) (n : ℕ) → find test numbers ≡ this n → n ≤ 8
unfolding numbers
within_eight test n e = found_within test 8 numbers n refl e

in_either : (one other : Option ℕ) (n : ℕ) → either one other ≡ this n → (one ≡ this n) ⊎ (other ≡ this n)
in_either None other n e = inr e
in_either (Some m) other n e = inl e

pub number_within : (one other : ℕ → Bool) (n : ℕ)
    → either (find one numbers) (find other numbers) ≡ this n → n ≤ 8
number_within one other n e =
    ⊎_elim (λ (e : find one numbers ≡ this n). within_eight one n e)
    (λ (e : find other numbers ≡ this n). within_eight other n e)
    (in_either (find one numbers) (find other numbers) n e)

abbrev is_among : ℕ → List ℕ → Bool
is_among n ns = list_any (λ m. m == n) ns

among_range : (n a k : ℕ) → a ≤ n → n < a + k → is_among n (range_with_len a k) ≡ true
among_range n a zero h below = absurd (omega arith)
among_range n a (suc k) h below =
    by_test (a == n) refl
    (λ apart. let different : a ≢ n = apart in among_range n (a + 1) k (omega arith) (omega arith))
  where
    by_test : (b : Bool) → (a == n) ≡ b
        → ((a ≡ n → ⊥) → is_among n (range_with_len (a + 1) k) ≡ true)
        → (b || is_among n (range_with_len (a + 1) k)) ≡ true
    by_test true e later = refl
    by_test false e later = later (λ s. true≢false (sym (eq-eqb a n s) ∙ e))

pub among_numbers : (n : ℕ) → n ≤ 8 → is_among n numbers ≡ true
unfolding numbers
among_numbers n h = among_range n 0 9 (omega arith) (omega arith)

-- ---- what the pass found, in the words of the table

pub record IsFound (policy : Policy) (table : Table) (found : NumbersFound) : Type 0 where
  pub others : found.others ≡ others_in_use policy table
  pub number : either found.same found.free ≡ number_for policy table

pub is_found : (policy : Policy) (table : Table) (text : List ℕ) (found : NumbersFound)
    → text ≡ normal_text policy → found ≡ with_uses text table nothing_found numbers
    → IsFound policy table found
is_found policy table text found t e =
    let whole : found ≡ with_uses (normal_text policy) table nothing_found numbers =
    e ∙ ap (λ l. with_uses l table nothing_found numbers) t in
    record {
      others = ap (λ p. p.others) whole ∙ others_found (normal_text policy) table numbers nothing_found
          ∙ zero-add _;
      number = ap (λ p. either p.same p.free) whole
          ∙ ap (λ o. either o (with_uses (normal_text policy) table nothing_found numbers).free)
          (same_found (normal_text policy) table numbers nothing_found)
          ∙ ap (either (find (is_same (normal_text policy) table) numbers))
          (free_found (normal_text policy) table numbers nothing_found);
    }

pub is_given : (policy : Policy) (table : Table) (found : NumbersFound) → IsFound policy table found
    → IsGiven policy table (number_of found)
is_given policy table found f = by_room (nat_lt found.others most_others) refl
  where
    by_number : (number : Option ℕ) → either found.same found.free ≡ number
        → found.others < most_others → IsGiven policy table number
    by_number None e room = eight_others (normal_text policy) table (sym f.number ∙ e)
    by_number (Some n) e room =
        let is : number_for policy table ≡ this n = sym f.number ∙ e in (
          is,
          number_within (is_same (normal_text policy) table) (is_free table) n is,
          omega (arith, f.others),
        )

    by_room : (b : Bool) → nat_lt found.others most_others ≡ b
        → IsGiven policy table (cond b (either found.same found.free) None)
    by_room true e = by_number (either found.same found.free) refl (ltb-true found.others most_others e)
    by_room false e = omega (arith, f.others, ltb-false found.others most_others e)
