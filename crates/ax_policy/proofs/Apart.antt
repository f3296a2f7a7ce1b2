-- Policies of different normal texts stay so when one is made the policy now: it takes the number
-- that has its text, where there is one.
use Rattle.std.proofs.Common.{◌≡◌, ℕ, ◌≤◌, ◌==◌, List, [], ◌∷◌, Bool, true, false, cond, ◌||◌, Option, Some, None, find, refl, sym, ap, ◌∙◌, true≢false}
use Rattle.std.specs.List.{list_any}
use Rattle.std.specs.Prelude.{nat_lt}
use Rattle.std.specs.Str.{bytes_eq}
use Rattle.std.proofs.lemmas.Bool.{eqb-true, eq-eqb, ne_eqb}
use Rattle.ax_policy.specs.declared.policy.Policy.{Policy}
use Rattle.ax_policy.specs.Normal.{normal_text}
use Rattle.ax_policy.specs.Paths.{either}
use Rattle.ax_policy.specs.Table.{Table, AreApart, SetsNow, numbers, policy_at, is_used, is_taken, is_free, is_same, is_text_of}
use Rattle.ax_policy.proofs.NumberLaws.{this, found_passes, within_eight, among_numbers}
use Rattle.ax_policy.proofs.Searching.{both, both_true, bytes_eq_same, same_bytes}

-- ---- numbers that are found

abbrev is_among : ℕ → List ℕ → Bool
is_among n ns = list_any (λ m. m == n) ns

found_there : (test : ℕ → Bool) (ns : List ℕ) (n : ℕ) → is_among n ns ≡ true → test n ≡ true
    → (m : ℕ) × (find test ns ≡ this m)
found_there test [] n among passes = absurd (cc)
found_there test (m ∷ ns) n among passes =
    by_tests (test m) (m == n) refl refl among (λ later. found_there test ns n later passes)
  where
    by_tests : (b same : Bool) → test m ≡ b → (m == n) ≡ same → (same || is_among n ns) ≡ true
        → (is_among n ns ≡ true → (k : ℕ) × (find test ns ≡ this k))
        → (k : ℕ) × (cond b (this m) (find test ns) ≡ this k)
    by_tests true same t e among later = (m, refl)
    by_tests false true t e among later =
        absurd (true≢false (sym passes ∙ ap test (sym (eqb-true m n e)) ∙ t))
    by_tests false false t e among later = later among

abbrev given : Policy → Option Policy
given policy = Some policy

same_policy : (one other : Policy) → given one ≡ given other → one ≡ other
same_policy one other e = cc

-- a policy whose number is found to have that text
text_of_found : (text : List ℕ) (o : Option Policy) → is_text_of text o ≡ true
    → (policy : Policy) × (o ≡ given policy) × (normal_text policy ≡ text)
text_of_found text None e = absurd (cc)
text_of_found text (Some policy) e = (policy, refl, same_bytes (normal_text policy) text e)

same_number : (m n : ℕ) → this m ≡ this n → m ≡ n
same_number m n e = cc

differs : (a b : ℕ) → (a == b) ≡ false → a ≡ b → ⊥
differs a b e s = true≢false (sym (eq-eqb a b s) ∙ e)

left_of : (a b : Bool) → b ≡ false → (a || b) ≡ true → a ≡ true
left_of true b f e = refl
left_of false b f e = absurd (true≢false (sym e ∙ f))

either_way : (a b : Bool) → a ≡ true → (a || b) ≡ true
either_way true b e = refl
either_way false b e = absurd (cc)

module _ (policy : Policy) (old new : Table) (sets : SetsNow policy old new) (apart : AreApart old) where
  -- another number that is in use or now was so before
  was_taken : (n : ℕ) → (n ≡ new.current → ⊥) → is_taken new n ≡ true → is_taken old n ≡ true
  was_taken n other taken =
      either_way (is_used old n) (n == old.current)
      (ap (nat_lt 0) (sym (sets.counts n))
      ∙ left_of (is_used new n) (n == new.current) (ne_eqb n new.current other) taken)

  -- the number that had the text is the one that is taken
  has_number : (n : ℕ) (one : Policy) → n ≤ 8 → is_taken old n ≡ true → policy_at old n ≡ given one
      → normal_text one ≡ normal_text policy → n ≡ new.current
  has_number n one within taken is text =
      let same : is_same (normal_text policy) old n ≡ true =
      both_true (is_taken old n) (is_text_of (normal_text policy) (policy_at old n)) taken
      (ap (is_text_of (normal_text policy)) is ∙ ap (λ l. bytes_eq l (normal_text policy)) text
      ∙ bytes_eq_same (normal_text policy)) in
      let found = found_there (is_same (normal_text policy) old) numbers n (among_numbers n within) same in
      let m : ℕ = found.0 in
      let passes = both (is_taken old m) (is_text_of (normal_text policy) (policy_at old m))
      (found_passes (is_same (normal_text policy) old) numbers m found.1) in
      let other = text_of_found (normal_text policy) (policy_at old m) passes.1 in
      let first : n ≡ m = apart n m one other.0 within (within_eight (is_same (normal_text policy) old) m found.1)
      taken passes.0 is other.1 (text ∙ sym other.2) in
      let chosen : this m ≡ this new.current =
      sym (ap (λ o. either o (find (is_free old) numbers)) found.1) ∙ sets.number in
      first ∙ same_number m new.current chosen

  -- the policy of the number that is now
  is_policy : (n : ℕ) (one : Policy) → n ≡ new.current → policy_at new n ≡ given one → one ≡ policy
  is_policy n one now is = same_policy one policy (sym is ∙ ap (policy_at new) now ∙ sets.stands)

  one_now : (a b : ℕ) (one other : Policy) → b ≤ 8 → a ≡ new.current → (b ≡ new.current → ⊥)
      → is_taken new b ≡ true → policy_at new a ≡ given one → policy_at new b ≡ given other
      → normal_text one ≡ normal_text other → a ≡ b
  one_now a b one other within now apart taken first second text =
      absurd (apart (has_number b other within (was_taken b apart taken)
      (sym (sets.others b apart) ∙ second)
      (sym text ∙ ap normal_text (is_policy a one now first))))

  pub stay_apart : AreApart new
  stay_apart a b one other a_in b_in a_taken b_taken first second text =
      by_tests (a == new.current) (b == new.current) refl refl
    where
      by_tests : (x y : Bool) → (a == new.current) ≡ x → (b == new.current) ≡ y → a ≡ b
      by_tests true true x y = eqb-true a new.current x ∙ sym (eqb-true b new.current y)
      by_tests true false x y =
          one_now a b one other b_in (eqb-true a new.current x) (differs b new.current y) b_taken first
          second text
      by_tests false true x y =
          sym (one_now b a other one a_in (eqb-true b new.current y) (differs a new.current x) a_taken second
          first (sym text))
      by_tests false false x y =
          apart a b one other a_in b_in (was_taken a (differs a new.current x) a_taken)
          (was_taken b (differs b new.current y) b_taken)
          (sym (sets.others a (differs a new.current x)) ∙ first)
          (sym (sets.others b (differs b new.current y)) ∙ second) text
