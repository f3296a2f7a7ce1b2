-- The number that a policy is given: it has the policy's text, or it is neither in use nor now. And the numbers that there are.
use Rattle.std.proofs.Common.{◌≡◌, ◌⊎◌, inl, inr, ⊎_elim, ℕ, zero, suc, ◌+◌, ◌<◌, ◌≤◌, List, [], ◌∷◌, Bool, true, false, cond, find, Option, Some, None, refl, sym, ap, ◌∙◌, arith}
use Rattle.std.specs.List.{range_with_len}
use Rattle.std.specs.Prelude.{◌≢◌, ◌&&◌, ◌||◌, ◌==◌, not, nat_lt}
use Rattle.std.specs.Str.{bytes_eq}
use Rattle.std.proofs.lemmas.Bool.{cases_eq, lt-ltb}
use Rattle.ax_container.proofs.Ids.{bytes_eq-self, same_from_eq}
use Rattle.ax_policy.specs.Normal.{normal_text}
use Rattle.ax_policy.specs.Paths.{either}
use Rattle.ax_policy.specs.Table.{Table, count_at, is_free, is_same, is_taken, is_text_of, is_used, number_for, numbers, policy_at}
use Rattle.ax_policy.specs.declared.policy.Policy.{Policy}
use Rattle.ax_transform.specs.Parts.{is_written}
use Rattle.ax_transform.proofs.Lists.{In, NoTwice}

-- ---- those that there are

low : (n a k : ℕ) → In n (range_with_len a k) → a ≤ n
low n a zero there = absurd there
low n a (suc k) (inl same) = omega (arith, same)
low n a (suc k) (inr there) = omega (arith, low n (a + 1) k there)

twice_in : (a k : ℕ) → NoTwice (range_with_len a k)
twice_in a zero = tt
twice_in a (suc k) = ((λ there. let above : a + 1 ≤ a = low a (a + 1) k there in omega (arith, above)), twice_in (a + 1) k)

in_range : (n a k : ℕ) → a ≤ n → n < a + k → In n (range_with_len a k)
in_range n a zero above below = absurd (omega (arith, above, below))
in_range n a (suc k) above below =
    ⊎_elim
    (λ (same : n ≡ a). inl same)
    (λ (apart : n ≡ a → ⊥). let other : n ≢ a = apart in inr (in_range n (a + 1) k (omega (arith, above, other)) (omega (arith, below))))
    (cases_eq n a)

pub no_number_twice : NoTwice numbers
unfolding numbers
no_number_twice = twice_in 0 9

pub in_numbers : (n : ℕ) → n ≤ 8 → In n numbers
unfolding numbers
in_numbers n within = in_range n 0 9 (omega arith) (omega (arith, within))

-- ---- the one that is given

pub found_passes : (test : ℕ → Bool) (ns : List ℕ) (n : ℕ) → find test ns ≡ Some n → test n ≡ true
found_passes test [] n is = absurd cc
found_passes test (m ∷ ns) n is = by_test (test m) refl (found_passes test ns n) is
  where
    by_test : (b : Bool) → test m ≡ b → (find test ns ≡ Some n → test n ≡ true) → cond b (Some m) (find test ns) ≡ Some n
        → test n ≡ true
    by_test true passes rest here = let same : m ≡ n = cc in ap test (sym same) ∙ passes
    by_test false passes rest later = rest later

pub found_there : (test : ℕ → Bool) (ns : List ℕ) (n : ℕ) → In n ns → test n ≡ true → (m : ℕ) × (find test ns ≡ Some m)
found_there test [] n there passes = absurd there
found_there test (m ∷ ns) n there passes = by_test (test m) refl (λ later. found_there test ns n later passes) there
  where
    by_test : (b : Bool) → test m ≡ b → (In n ns → (k : ℕ) × (find test ns ≡ Some k)) → In n (m ∷ ns)
        → (k : ℕ) × (cond b (Some m) (find test ns) ≡ Some k)
    by_test true is rest at = (m, refl)
    by_test false is rest (inl same) = absurd (let e : true ≡ false = sym passes ∙ ap test same ∙ is in cc)
    by_test false is rest (inr later) = rest later

pub both_true : (a b : Bool) → a ≡ true → b ≡ true → (a && b) ≡ true
both_true a b x y = λ i. x i && y i

one_of : (first second : Option ℕ) (n : ℕ) → either first second ≡ Some n → (first ≡ Some n) ⊎ (second ≡ Some n)
one_of None second n is = inr is
one_of (Some m) second n is = inl is

second_true : (a b : Bool) → (a && b) ≡ true → b ≡ true
second_true true b is = is
second_true false b is = absurd cc

not_true : (a : Bool) → not a ≡ true → a ≡ false
not_true true is = absurd cc
not_true false is = refl

neither_first : (a b : Bool) → (a || b) ≡ false → a ≡ false
neither_first true b is = absurd cc
neither_first false b is = refl

none_counted : (n : ℕ) → nat_lt 0 n ≡ false → n ≡ 0
none_counted zero is = refl
none_counted (suc n) is = absurd (let some : nat_lt 0 (suc n) ≡ true = lt-ltb 0 (suc n) (omega arith) in cc)

-- where the number has not the policy's text, no document is under it
pub unwritten_unused : (policy : Policy) (table : Table) (number : ℕ) → number_for policy table ≡ Some number
    → is_written policy table number ≡ false → count_at table number ≡ 0
unwritten_unused policy table number given unwritten =
    ⊎_elim
    (λ (same : find (is_same (normal_text policy) table) numbers ≡ Some number).
    let written : is_written policy table number ≡ true =
    second_true (is_taken table number) (is_text_of (normal_text policy) (policy_at table number))
    (found_passes (is_same (normal_text policy) table) numbers number same) in
    absurd (let e : true ≡ false = sym written ∙ unwritten in cc))
    (λ (free : find (is_free table) numbers ≡ Some number).
    none_counted (count_at table number)
    (neither_first (is_used table number) (number == table.current)
    (not_true (is_taken table number) (found_passes (is_free table) numbers number free))))
    (one_of (find (is_same (normal_text policy) table) numbers) (find (is_free table) numbers) number given)

-- the table has a policy under the number whose text is that
pub written_has : (policy : Policy) (found : Option Policy) → is_text_of (normal_text policy) found ≡ true
    → (own : Policy) × (found ≡ Some own) × (normal_text own ≡ normal_text policy)
written_has policy None is = absurd cc
written_has policy (Some own) is = (own, refl, same_from_eq (normal_text own) (normal_text policy) is)

pub has_written : (policy : Policy) (found : Option Policy) (own : Policy) → found ≡ Some own → normal_text own ≡ normal_text policy
    → is_text_of (normal_text policy) found ≡ true
has_written policy found own is alike =
    let there : is_text_of (normal_text policy) (Some own) ≡ true =
    ap (λ t. bytes_eq t (normal_text policy)) alike ∙ bytes_eq-self (normal_text policy) in
    ap (is_text_of (normal_text policy)) is ∙ there
