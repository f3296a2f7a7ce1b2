-- Tables that are filled policy by policy, and what their numbers say of the contents.
use Rattle.std.proofs.Common.{◌≡◌, ℕ, zero, suc, ◌+◌, ◌<◌, ◌≤◌, ◌==◌, Bool, true, false, cond, List, length, Option, Some, None, inl, inr, ◌⊎◌}
use Rattle.std.proofs.Common.{refl, sym, ap, subst, ◌∙◌, ⊎_elim, arith}
use Rattle.std.specs.Prelude.{◌≢◌, IsSome, IsTrue, is_some, option_map, replicate, slice_index_or, nat_lt, if◌then◌else◌}
use Rattle.std.specs.Option.{option_to_list}
use Rattle.std.specs.FinMap as map
use Rattle.std.proofs.lemmas.Bool.{cases_eq, cases_lt, eq-eqb, eqb-true, lt-ltb, ltb-true, or_cases, or_left, or_right}
use Rattle.ax_area.proofs.OneTelling.{same_some, some_or_none}
use Rattle.ax_area.specs.Contents.{Contents}
use Rattle.ax_image_grammar.specs.Table.{IsTaken, AreApart}
use Rattle.ax_policy.specs.declared.policy.Policy.{Policy}
use Rattle.ax_policy.specs.declared.slot.Slot.{Slot}
use Rattle.ax_policy.specs.Normal.{normal_text}
use Rattle.ax_policy.specs.Table as table
use Rattle.ax_policy.specs.Table.{SetsCount, Table, count_at, fresh, is_taken, no_slot, policy_at}
use Rattle.ax_table.specs.Damage.{HaveTwins}
use Rattle.ax_table.specs.Filling.{AreApartBelow, AreGiven, AreNumbersGiven, Gives, IsBegun, IsFilled, IsGivenNumber, IsPolicyOf, IsStarted, IsTwin}
use Rattle.ax_table.specs.Filling.{PutsGiven, TakesIn, taken_text}
use Rattle.ax_table.specs.TableAgrees.{TableAgrees}
use Rattle.ax_table.proofs.Agreeing.{counts_held, one_more}

-- ---- a new table

same_everywhere : (k n : ℕ) → slice_index_or (replicate k no_slot) n no_slot ≡ no_slot
same_everywhere zero n = refl
same_everywhere (suc k) zero = refl
same_everywhere (suc k) (suc n) = same_everywhere k n

fresh_counts : (n : ℕ) → count_at fresh n ≡ 0
fresh_counts zero = refl
fresh_counts (suc n) = ap (λ (slot : Slot). slot.count) (same_everywhere 8 n)

fresh_policies : (n : ℕ) → n ≢ 0 → policy_at fresh n ≡ None
fresh_policies zero apart = absurd (apart refl)
fresh_policies (suc n) apart = ap (λ (slot : Slot). slot.policy) (same_everywhere 8 n)

pub begun : (honest : Bool) (contents : Contents) (new : Table) → PutsGiven honest 0 contents fresh new → IsBegun honest new contents
begun honest contents new put = record {
  none = λ n. put.puts.counts n ∙ fresh_counts n;
  given = record {
    policies = λ n policy is. policies n policy is (cases_eq n 0);
    numbers = λ n policy is. numbers n policy is (cases_eq n 0);
  };
}
  where
    none : (n : ℕ) (policy : Policy) → n ≢ 0 → policy_at new n ≡ Some policy → ⊥
    none n policy apart is = some_or_none policy (sym (put.puts.others n apart ∙ fresh_policies n apart) ∙ is)

    policies : (n : ℕ) (policy : Policy) → policy_at new n ≡ Some policy → (n ≡ 0) ⊎ (n ≡ 0 → ⊥) → IsPolicyOf honest n contents policy
    policies n policy is (inl same) =
        let one : put.policy ≡ policy = same_some put.policy policy (sym put.puts.stands ∙ ap (policy_at new) (sym same) ∙ is) in
        subst (λ m. IsPolicyOf honest m contents policy) (sym same) (subst (IsPolicyOf honest 0 contents) one put.is)
    policies n policy is (inr apart) = absurd (none n policy apart is)

    numbers : (n : ℕ) (policy : Policy) → policy_at new n ≡ Some policy → (n ≡ 0) ⊎ (n ≡ 0 → ⊥) → IsGivenNumber n contents
    numbers n policy is (inl same) =
        subst (λ m. IsGivenNumber m contents) (sym same) (record { few = omega arith; given = refl })
    numbers n policy is (inr apart) = absurd (none n policy apart is)

-- ---- a policy more

module _ (honest : Bool) (number : ℕ) (contents : Contents) where
  is_there : (found : Option Policy) (policy : Policy) → found ≡ Some policy → IsSome found
  is_there found policy is = subst IsSome (sym is) refl

  -- of a number that had none before
  pub given_now : (old new : Table) → IsGivenNumber number contents → PutsGiven honest number contents old new → Gives honest number contents old new
  given_now old new of put = record {
    there = is_there (policy_at new number) put.policy put.puts.stands;
    still = λ other had.
        ⊎_elim (λ (same : other ≡ number). subst (λ n. IsSome (policy_at new n)) (sym same) (is_there (policy_at new number) put.policy put.puts.stands))
        (λ (apart : other ≡ number → ⊥). subst IsSome (sym (put.puts.others other apart)) had) (cases_eq other number);
    counts = put.puts.counts;
    current = put.puts.current;
    moved = put.puts.moved;
    given = λ were. record {
      policies = λ other policy is. policies were other policy is (cases_eq other number);
      numbers = λ other policy is. numbers were other policy is (cases_eq other number);
    };
  }
    where
      policies : AreGiven honest old contents → (other : ℕ) (policy : Policy) → policy_at new other ≡ Some policy
          → (other ≡ number) ⊎ (other ≡ number → ⊥) → IsPolicyOf honest other contents policy
      policies were other policy is (inl same) =
          let one : put.policy ≡ policy = same_some put.policy policy (sym put.puts.stands ∙ ap (policy_at new) (sym same) ∙ is) in
          subst (λ m. IsPolicyOf honest m contents policy) (sym same) (subst (IsPolicyOf honest number contents) one put.is)
      policies were other policy is (inr apart) = were.policies other policy (sym (put.puts.others other apart) ∙ is)

      numbers : AreGiven honest old contents → (other : ℕ) (policy : Policy) → policy_at new other ≡ Some policy
          → (other ≡ number) ⊎ (other ≡ number → ⊥) → IsGivenNumber other contents
      numbers were other policy is (inl same) = subst (λ m. IsGivenNumber m contents) (sym same) of
      numbers were other policy is (inr apart) = were.numbers other policy (sym (put.puts.others other apart) ∙ is)

  -- of one that had one
  pub given_before : (table : Table) → is_some (policy_at table number) ≡ true → Gives honest number contents table table
  given_before table had = record {
    there = had_one (policy_at table number) had;
    still = λ other there. there;
    counts = λ other. refl;
    current = refl;
    moved = refl;
    given = λ were. were;
  }
    where
      had_one : (found : Option Policy) → is_some found ≡ true → IsSome found
      had_one None is = absurd cc
      had_one (Some policy) is = refl

given_same : (honest : Bool) (contents : Contents) (old new : Table) → ((n : ℕ) → policy_at new n ≡ policy_at old n) → AreGiven honest old contents
    → AreGiven honest new contents
given_same honest contents old new same were = record {
  policies = λ n policy is. were.policies n policy (sym (same n) ∙ is);
  numbers = λ n policy is. were.numbers n policy (sym (same n) ∙ is);
}

-- and a document under it
pub taken_in : (honest : Bool) (number : ℕ) (contents : Contents) (old mid new : Table) → Gives honest number contents old mid
    → SetsCount number (count_at mid number + 1) mid new → TakesIn honest number contents old new
taken_in honest number contents old mid new gives sets = record {
  there = subst IsSome (sym (sets.policies number)) gives.there;
  still = λ other had. subst IsSome (sym (sets.policies other)) (gives.still other had);
  counts = λ other. one_more number mid new sets other ∙ ap (λ n. n + cond (number == other) 1 0) (gives.counts other);
  current = sets.current ∙ gives.current;
  moved = sets.moved ∙ gives.moved;
  given = λ were. given_same honest contents mid new sets.policies (gives.given were);
}

-- the policy now
pub started : (honest : Bool) (number : ℕ) (contents : Contents) (old mid new : Table) → number ≡ contents.policy_now → IsBegun honest old contents
    → Gives honest number contents old mid → new ≡ record mid { current = number; moved = 0 } → IsStarted honest new contents
started honest number contents old mid new now was gives is = record {
  begun = record {
    none = λ n. ap (λ (t : Table). count_at t n) is ∙ gives.counts n ∙ was.none n;
    given = given_same honest contents mid new (λ n. ap (λ (t : Table). policy_at t n) is) (gives.given was.given);
  };
  now = ap (λ (t : Table). t.current) is ∙ now;
  moved = ap (λ (t : Table). t.moved) is;
  there = subst (λ n. IsSome (policy_at new n)) now (subst (λ (t : Table). IsSome (policy_at t number)) (sym is) gives.there);
}

-- ---- texts

has_text : (b : Bool) (found : Option Policy) (text : List ℕ) → (if b then option_map normal_text found else None) ≡ Some text
    → (b ≡ true) × ((policy : Policy) × (found ≡ Some policy) × (normal_text policy ≡ text))
has_text true (Some policy) text is = (refl, (policy, refl, same_some (normal_text policy) text is))
has_text true None text is = absurd (some_or_none text is)
has_text false found text is = absurd (some_or_none text is)

text_there : (b : Bool) (found : Option Policy) (policy : Policy) → b ≡ true → found ≡ Some policy
    → (if b then option_map normal_text found else None) ≡ Some (normal_text policy)
text_there b found policy taken is =
    ap (λ t. if t then option_map normal_text found else None) taken ∙ ap (option_map normal_text) is

pub are_apart : (t : Table) → AreApartBelow t 9 → table.AreApart t
are_apart t apart a b policy other fa fb ta tb ia ib same =
    let here : taken_text t a ≡ Some (normal_text policy) = text_there (is_taken t a) (policy_at t a) policy ta ia in
    let there : taken_text t b ≡ Some (normal_text policy) =
    text_there (is_taken t b) (policy_at t b) other tb ib ∙ ap (λ (text : List ℕ). Some text) (sym same) in
    ⊎_elim (λ (less : a < b). absurd (apart b (normal_text policy) (omega (arith, fb)) there a less here))
    (λ (le : b ≤ a).
    ⊎_elim (λ (more : b < a). absurd (apart a (normal_text policy) (omega (arith, fa)) here b more there)) (λ (ge : a ≤ b). omega (arith, le, ge))
    (cases_lt b a))
    (cases_lt a b)

-- ---- a table that is filled

module _ (honest : Bool) (t : Table) (contents : Contents) (filled : IsFilled honest t contents) where
  some_policy : (found : Option Policy) → IsSome found → (policy : Policy) × (found ≡ Some policy)
  some_policy None some = absurd cc
  some_policy (Some policy) some = (policy, refl)

  -- it agrees, unless two numbers have one policy
  pub filled_agrees : table.AreApart t → TableAgrees honest t contents
  filled_agrees apart = record {
    now = filled.now;
    given =
        let there = some_policy (policy_at t contents.policy_now) (filled.known contents.policy_now (inl refl)) in
        (filled.given.numbers contents.policy_now there.0 there.1).given;
    known = filled.known;
    policies = λ n policy is. (filled.given.policies n policy is).is;
    apart = apart;
    only_given = λ n policy is. (filled.given.numbers n policy is).given;
    texts = λ h n policy is. (filled.given.policies n policy is).text h;
    counts = filled.counts;
    moved = λ n document below held. absurd (omega (arith, below, filled.moved));
    few = filled.few;
  }

  taken_here : (n : ℕ) → IsTaken n contents → is_taken t n ≡ true
  taken_here n (inl is) = or_right (nat_lt 0 (count_at t n)) (n == t.current) (eq-eqb n t.current (is ∙ sym filled.now))
  taken_here n (inr used) =
      or_left (nat_lt 0 (count_at t n)) (n == t.current)
      (lt-ltb 0 (count_at t n)
      (subst (λ m. 0 < count_at t m) used.indexed_by
      (subst (λ m. 0 < m) (sym (filled.counts used.document.policy)) (counts_held contents used.number used.document used.held))))

  taken_there : (n : ℕ) → is_taken t n ≡ true → IsTaken n contents
  taken_there n taken =
      ⊎_elim (λ (some : nat_lt 0 (count_at t n) ≡ true). inr (filled.used n (ltb-true 0 (count_at t n) some)))
      (λ (now : (n == t.current) ≡ true). inl (eqb-true n t.current now ∙ filled.now))
      (or_cases (nat_lt 0 (count_at t n)) (n == t.current) taken)

  pub contents_apart : IsTrue honest → table.AreApart t → AreApart contents
  contents_apart h apart a b ta tb same =
      let pa = some_policy (policy_at t a) (filled.known a ta) in
      let pb = some_policy (policy_at t b) (filled.known b tb) in
      let sa = (filled.given.policies a pa.0 pa.1).text h in
      let sb = (filled.given.policies b pb.0 pb.1).text h in
      apart a b pa.0 pb.0 (filled.given.numbers a pa.0 pa.1).few (filled.given.numbers b pb.0 pb.1).few (taken_here a ta) (taken_here b tb) pa.1 pb.1
      (sym sa.spelled ∙ same ∙ sb.spelled)

  pub have_twins : IsTrue honest → (number : ℕ) → IsTwin t number → HaveTwins contents
  have_twins h number twin =
      let a = has_text (is_taken t number) (policy_at t number) twin.text twin.here in
      let b = has_text (is_taken t twin.below.other) (policy_at t twin.below.other) twin.text twin.below.there in
      let sa = (filled.given.policies number a.1.0 a.1.1).text h in
      let sb = (filled.given.policies twin.below.other b.1.0 b.1.1).text h in
      record {
        a = number;
        b = twin.below.other;
        taken = taken_there number a.0;
        taken_too = taken_there twin.below.other b.0;
        same = sa.spelled ∙ a.1.2 ∙ sym (sb.spelled ∙ b.1.2);
        two = λ e. let less : twin.below.other < number = twin.below.less in omega (arith, less, e);
      }

-- ---- a twin has a part of its own

pub one_part : (part : Option (List ℕ)) → IsTrue (is_some part) → 0 < length (option_to_list part)
one_part None is = absurd cc
one_part (Some payload) is = omega arith

pub twin_part : (t : Table) (contents : Contents) (number : ℕ) → AreNumbersGiven t contents → IsTwin t number
    → 0 < length (option_to_list (map.get contents.policies number))
twin_part t contents number given twin =
    let here = has_text (is_taken t number) (policy_at t number) twin.text twin.here in
    let less : twin.below.other < number = twin.below.less in
    one_part (map.get contents.policies number)
    (⊎_elim (λ (zero : (number == 0) ≡ true). let is : number ≡ 0 = eqb-true number 0 zero in absurd (omega (arith, less, is))) (λ there. there)
    (or_cases (number == 0) (map.contains_key contents.policies number) (given number here.1.0 here.1.1).given))
