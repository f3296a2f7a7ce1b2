-- Documents that are counted under their policies, one after another in the order of their numbers: what is still to
-- come, and what the table has of those before.
use Rattle.std.proofs.Common.{◌≡◌, ℕ, ◌+◌, ◌-◌, ◌<◌, ◌≤◌, ◌==◌, Bool, true, false, cond, List, [], ◌∷◌, length, Option, Some, None, inl, inr, ◌⊎◌}
use Rattle.std.proofs.Common.{refl, sym, ap, subst, ◌∙◌, ⊎_elim, arith}
use Rattle.std.specs.Prelude.{IsSome, IfSome, IfNone, nat_le, is_some}
use Rattle.std.proofs.lemmas.Bool.{cases_Bool, cases_eq, cases_lt, eq-eqb, eqb-true, false_from_ne_true, le-leb, leb-false, leb-true, lt-leb}
use Rattle.std.proofs.lemmas.List.Sums.{sum_by-cons}
use Rattle.std.specs.Cmp.{nat_cmp_total}
use Rattle.std.specs.FinMap as map
use Rattle.std.specs.Ordering.{nat_cmp}
use Rattle.ax_area.proofs.OneTelling.{same_some, some_or_none}
use Rattle.ax_area.specs.Contents.{Contents, Stored}
use Rattle.ax_image_grammar.specs.Table.{IsTaken, IsUsed}
use Rattle.ax_pages.proofs.LastPart.{get_not_removed, get_removed}
use Rattle.ax_pages.specs.AfterPart.{most_documents}
use Rattle.ax_policy.specs.Table.{Table, count_at, policy_at}
use Rattle.ax_store.specs.Listed.{IsNextAfter}
use Rattle.ax_table.specs.Filling.{AreGiven, IsFilled, IsFirst, IsStarted, TakesIn}
use Rattle.ax_table.specs.TableAgrees.{documents_under}
use Rattle.ax_table.proofs.Counting.{Documents, count, count_remove}

abbrev bit : Bool → ℕ
bit b = cond b 1 0

abbrev under : ℕ → Stored → Bool
under n document = document.policy == n

-- the document of this number is still to come
abbrev pub is_ahead : Option ℕ → ℕ → Bool
is_ahead None number = false
is_ahead (Some next) number = nat_le next number

-- these are the documents that are still to come
pub record AreLeft (next : Option ℕ) (all left : Documents) : Type 0 where
  pub ahead : (number : ℕ) → is_ahead next number ≡ true → map.get left number ≡ map.get all number
  pub behind : (number : ℕ) → is_ahead next number ≡ false → map.get left number ≡ None

-- The table has the policies of all documents before the next one, and counts them.
pub record IsPassed (honest : Bool) (contents : Contents) (next : Option ℕ) (table : Table) : Type 0 where
  pub left : Documents
  pub are : AreLeft next contents.documents left
  pub counts : (number : ℕ) → count_at table number + count (under number) (map.entries left) ≡ documents_under number contents
  pub known : (number : ℕ) (document : Stored) → map.get contents.documents number ≡ Some document → is_ahead next number ≡ false
      → IsSome (policy_at table document.policy)
  pub used : (number : ℕ) → 0 < count_at table number → IsUsed number contents
  pub now : table.current ≡ contents.policy_now
  pub moved : table.moved ≡ 0
  pub there : IsSome (policy_at table contents.policy_now)
  pub given : AreGiven honest table contents

-- ---- which document is the next one

none_before : (all : Documents) (next : Option ℕ) → IsFirst all next → (number : ℕ) → is_ahead next number ≡ false → map.get all number ≡ None
none_before all None first number behind = first number
none_before all (Some next) first number behind = first.1 number (leb-false next number behind)

cases_order : (other number : ℕ) → (number < other) ⊎ ((other ≡ number) ⊎ (other < number))
cases_order other number =
    ⊎_elim (λ (less : number < other). inl less)
    (λ (le : other ≤ number).
    ⊎_elim (λ (more : other < number). inr (inr more)) (λ (ge : number ≤ other). inr (inl (omega (arith, le, ge)))) (cases_lt other number))
    (cases_lt number other)

-- how many are to come
abbrev pub ahead_count : Option ℕ → Documents → ℕ
ahead_count next all = map.len (map.retain_keys all (is_ahead next))

kept_left : (next : Option ℕ) (all : Documents) → AreLeft next all (map.retain_keys all (is_ahead next))
kept_left next all = record {
  ahead = λ number is. kept number ∙ ap (λ b. cond b (map.get all number) None) is;
  behind = λ number is. kept number ∙ ap (λ b. cond b (map.get all number) None) is;
}
  where
    kept : (number : ℕ) → map.get (map.retain_keys all (is_ahead next)) number ≡ cond (is_ahead next number) (map.get all number) None
    kept number =
        map.get-retain_keys all (is_ahead next) number (λ other same. ap (is_ahead next) (sym (map.nat_cmp-IsAntisymmetric number other same)))

one_left : (next : Option ℕ) (all a b : Documents) → AreLeft next all a → AreLeft next all b → a ≡ b
one_left next all a b of_a of_b =
    map.same_map nat_cmp_total map.nat_cmp-IsAntisymmetric a b
    (λ number.
    ⊎_elim (λ (ahead : is_ahead next number ≡ true). of_a.ahead number ahead ∙ sym (of_b.ahead number ahead))
    (λ (behind : is_ahead next number ≡ false). of_a.behind number behind ∙ sym (of_b.behind number behind))
    (cases_Bool (is_ahead next number)))

some_len : (left : Documents) (number : ℕ) → map.contains_key left number ≡ true → 0 < map.len left
some_len left number there =
    ⊎_elim
    (λ (none : map.len left ≡ 0).
    absurd (not_there (map.get left number) (ap (λ m. map.get m number) (map.empty_of_len left none) ∙ map.get-empty nat_cmp number) there))
    (λ (some : map.len left ≡ 0 → ⊥). positive (map.len left) some)
    (cases_eq (map.len left) 0)
  where
    not_there : (found : Option Stored) → found ≡ None → is_some found ≡ true → ⊥
    not_there None is there = cc
    not_there (Some document) is there = cc

    positive : (n : ℕ) → (n ≡ 0 → ⊥) → 0 < n
    positive n some = ⊎_elim (λ (is : n ≡ 0). absurd (some is)) (λ (is : n ≡ 0 → ⊥). omega (arith, is)) (cases_eq n 0)

module _ (all : Documents) (number : ℕ) (next : Option ℕ) (found : IfSome next (IsNextAfter all number))
    (none : IfNone next ((other : ℕ) → number < other → map.get all other ≡ None)) where
  above : (other : ℕ) → is_ahead next other ≡ true → number < other
  above other ahead = by_next next found ahead
    where
      by_next : (next : Option ℕ) → IfSome next (IsNextAfter all number) → is_ahead next other ≡ true → number < other
      by_next None found ahead = absurd cc
      by_next (Some k) found ahead = omega (arith, found.above, leb-true k other ahead)

  between : (other : ℕ) → number < other → is_ahead next other ≡ false → map.get all other ≡ None
  between other less behind = by_next next found none behind
    where
      by_next : (next : Option ℕ) → IfSome next (IsNextAfter all number) → IfNone next ((other : ℕ) → number < other → map.get all other ≡ None)
          → is_ahead next other ≡ false → map.get all other ≡ None
      by_next None found none behind = none other less
      by_next (Some k) found none behind = found.least other less (leb-false k other behind)

  still_ahead : (other : ℕ) → number < other → is_ahead (Some number) other ≡ true
  still_ahead other less = le-leb number other (omega (arith, less))

  -- what is to come behind a number is what was to come from it on, without it
  pub left_next : (left : Documents) → AreLeft (Some number) all left → AreLeft next all (map.remove left number)
  left_next left are = record {
    ahead = λ other ahead.
        let less : number < other = above other ahead in
        get_not_removed left number other (λ e. omega (arith, less, e)) ∙ are.ahead other (still_ahead other less);
    behind = λ other behind. gone other behind (cases_order other number);
  }
    where
      gone : (other : ℕ) → is_ahead next other ≡ false → (number < other) ⊎ ((other ≡ number) ⊎ (other < number))
          → map.get (map.remove left number) other ≡ None
      gone other behind (inl less) =
          get_not_removed left number other (λ e. omega (arith, less, e)) ∙ are.ahead other (still_ahead other less) ∙ between other less behind
      gone other behind (inr (inl same)) = ap (map.get (map.remove left number)) same ∙ get_removed left number
      gone other behind (inr (inr more)) =
          get_not_removed left number other (λ e. omega (arith, more, e)) ∙ are.behind other (lt-leb number other more)

  -- and it has one less
  pub fewer_left : map.contains_key all number ≡ true → ahead_count next all < ahead_count (Some number) all
  fewer_left held =
      let left : Documents = map.retain_keys all (is_ahead (Some number)) in
      let there : map.contains_key left number ≡ true =
      ap is_some ((kept_left (Some number) all).ahead number (le-leb number number (omega arith))) ∙ held in
      let same : map.remove left number ≡ map.retain_keys all (is_ahead next) =
      one_left next all (map.remove left number) (map.retain_keys all (is_ahead next)) (left_next left (kept_left (Some number) all)) (kept_left next all)
      in
      let removed : map.len (map.remove left number) ≡ map.len left - 1 =
      map.len-remove nat_cmp_total left number ∙ ap (λ b. cond b (map.len left - 1) (map.len left)) there in
      let is : ahead_count next all ≡ map.len left - 1 = sym (ap map.len same) ∙ removed in
      let some : 0 < map.len left = some_len left number there in
      omega (arith, is, some)

-- ---- counting

count_few : (P : Stored → Bool) (documents : List (ℕ × Stored)) → count P documents ≤ length documents
count_few P [] = omega arith
count_few P (document ∷ documents) =
    let split : count P (document ∷ documents) ≡ bit (P document.1) + count P documents =
    sum_by-cons (λ (x : ℕ × Stored). bit (P x.1)) document documents in
    let one : bit (P document.1) ≤ 1 = at_most_one (P document.1) in
    omega (arith, split, one, count_few P documents)
  where
    at_most_one : (b : Bool) → bit b ≤ 1
    at_most_one true = omega arith
    at_most_one false = omega arith

no_element : {A : Type 0} (xs : List A) → length xs ≡ 0 → xs ≡ []
no_element [] e = refl
no_element (x ∷ xs) e = absurd (omega (arith, e))

no_entries : (left : Documents) → ((number : ℕ) → map.get left number ≡ None) → map.entries left ≡ []
no_entries left none =
    let empty : left ≡ map.empty =
    map.same_map nat_cmp_total map.nat_cmp-IsAntisymmetric left map.empty (λ number. none number ∙ sym (map.get-empty nat_cmp number)) in
    no_element (map.entries left) (sym (map.len-entries left) ∙ ap map.len empty ∙ map.len-empty nat_cmp Stored)

-- where no number is the first, there are no documents
pub few_of_none : (all : Documents) (first : Option ℕ) → first ≡ None → IsFirst all first → map.len all ≤ most_documents
few_of_none all first is none =
    let empty : map.entries all ≡ [] = no_entries all (subst (IsFirst all) is none) in
    omega (arith, map.len-entries all, ap length empty)

module _ (honest : Bool) (contents : Contents) where
  pub pass_none : (next : Option ℕ) (table : Table) → IsFirst contents.documents next → IsStarted honest table contents
      → IsPassed honest contents next table
  pass_none next table first started = record {
    left = contents.documents;
    are = record { ahead = λ number is. refl; behind = none_before contents.documents next first };
    counts = λ number. let none : count_at table number ≡ 0 = started.begun.none number in omega arith;
    known = λ number document held behind.
        absurd (some_or_none document (sym (none_before contents.documents next first number behind) ∙ held));
    used = λ number some. let none : count_at table number ≡ 0 = started.begun.none number in absurd (omega (arith, some, none));
    now = started.now;
    moved = started.moved;
    there = started.there;
    given = started.begun.given;
  }

  module _ (number : ℕ) (document : Stored) (table : Table) (held : map.get contents.documents number ≡ Some document)
      (passed : IsPassed honest contents (Some number) table) where
    still_left : map.get passed.left number ≡ Some document
    still_left = passed.are.ahead number (le-leb number number (omega arith)) ∙ held

    -- one more may be under its policy
    pub has_room : map.len contents.documents ≤ most_documents → count_at table document.policy < most_documents
    has_room few =
        let p = document.policy in
        let removed : count (under p) (map.entries (map.remove passed.left number)) + bit (p == p) ≡ count (under p) (map.entries passed.left) =
        count_remove (under p) passed.left number document still_left in
        let one : bit (p == p) ≡ 1 = ap bit (eq-eqb p p refl) in
        let all : count_at table p + count (under p) (map.entries passed.left) ≡ count (under p) (map.entries contents.documents) = passed.counts p in
        let most : count (under p) (map.entries contents.documents) ≤ length (map.entries contents.documents) =
        count_few (under p) (map.entries contents.documents) in
        let length_is : map.len contents.documents ≡ length (map.entries contents.documents) = map.len-entries contents.documents in
        omega (arith, few)

    module _ (new : Table) (takes : TakesIn honest document.policy contents table new) (next : Option ℕ)
        (found : IfSome next (IsNextAfter contents.documents number))
        (none : IfNone next ((other : ℕ) → number < other → map.get contents.documents other ≡ None)) where
      pub pass_one : IsPassed honest contents next new
      pass_one = record {
        left = map.remove passed.left number;
        are = left_next contents.documents number next found none passed.left passed.are;
        counts = λ n.
            let removed : count (under n) (map.entries (map.remove passed.left number)) + bit (document.policy == n)
            ≡ count (under n) (map.entries passed.left) = count_remove (under n) passed.left number document still_left in
            let more : count_at new n ≡ count_at table n + bit (document.policy == n) = takes.counts n in
            let were : count_at table n + count (under n) (map.entries passed.left) ≡ documents_under n contents = passed.counts n in
            omega arith;
        known = λ other found_there is behind. known_here other found_there is behind (cases_order other number);
        used = λ n some. used_here n some (cases_eq document.policy n);
        now = takes.current ∙ passed.now;
        moved = takes.moved ∙ passed.moved;
        there = takes.still contents.policy_now passed.there;
        given = takes.given passed.given;
      }
        where
          known_here : (other : ℕ) (there : Stored) → map.get contents.documents other ≡ Some there → is_ahead next other ≡ false
              → (number < other) ⊎ ((other ≡ number) ⊎ (other < number)) → IsSome (policy_at new there.policy)
          known_here other there is behind (inl less) =
              absurd (some_or_none there (sym (between contents.documents number next found none other less behind) ∙ is))
          known_here other there is behind (inr (inl same)) =
              let one : document ≡ there = same_some document there (sym held ∙ ap (map.get contents.documents) (sym same) ∙ is) in
              subst (λ (d : Stored). IsSome (policy_at new d.policy)) one takes.there
          known_here other there is behind (inr (inr more)) =
              takes.still there.policy (passed.known other there is (lt-leb number other more))

          used_here : (n : ℕ) → 0 < count_at new n → (document.policy ≡ n) ⊎ (document.policy ≡ n → ⊥) → IsUsed n contents
          used_here n some (inl same) = record { number = number; document = document; held = held; indexed_by = same }
          used_here n some (inr apart) =
              let more : count_at new n ≡ count_at table n + bit (document.policy == n) = takes.counts n in
              let zero : bit (document.policy == n) ≡ 0 =
              ap bit (false_from_ne_true (document.policy == n) (λ e. apart (eqb-true document.policy n e))) in
              passed.used n (omega (arith, some, more, zero))

  pub pass_all : (table : Table) → map.len contents.documents ≤ most_documents → IsPassed honest contents None table
      → IsFilled honest table contents
  pass_all table few passed = record {
    now = passed.now;
    moved = passed.moved;
    known = known;
    given = passed.given;
    counts = counts;
    used = passed.used;
    few = few;
  }
    where
      known : (number : ℕ) → IsTaken number contents → IsSome (policy_at table number)
      known number (inl is) = subst (λ n. IsSome (policy_at table n)) (sym is) passed.there
      known number (inr used) =
          subst (λ n. IsSome (policy_at table n)) used.indexed_by (passed.known used.number used.document used.held refl)

      counts : (number : ℕ) → count_at table number ≡ documents_under number contents
      counts number =
          let all : count_at table number + count (under number) (map.entries passed.left) ≡ documents_under number contents = passed.counts number in
          let none : count (under number) (map.entries passed.left) ≡ 0 =
          ap (count (under number)) (no_entries passed.left (λ other. passed.are.behind other refl)) in
          omega (arith, all, none)
