-- A table that agrees with the contents agrees with them after a write of a document, where its counts follow.
use Rattle.std.proofs.Common.{◌≡◌, inl, inr, ◌⊎◌, ⊎_elim, ℕ, ◌+◌, ◌-◌, ◌<◌, ◌≤◌, ◌==◌, Bool, true, cond, List, length, Some, None, refl, sym, ap, subst, ◌∙◌}
use Rattle.std.proofs.Common.{arith}
use Rattle.std.specs.Prelude.{IsSome, is_some, nat_lt}
use Rattle.std.proofs.lemmas.Bool.{cases_eq, eq-eqb, eqb-true, false_from_ne_true, lt-ltb, ltb-true, or_cases, or_left, or_right}
use Rattle.std.proofs.lemmas.List.Sums.{count_by-le-length}
use Rattle.std.specs.Cmp.{nat_cmp_total}
use Rattle.std.specs.FinMap as map
use Rattle.std.specs.Ordering.{nat_cmp}
use Rattle.ax_area.proofs.OneTelling.{same_some, some_or_none}
use Rattle.ax_area.specs.Contents.{Contents, Stored, is_given}
use Rattle.ax_image_grammar.specs.Payloads.{IsTextOf}
use Rattle.ax_image_grammar.specs.Table.{IsTaken, policy_text}
use Rattle.ax_pages.proofs.LastPart.{get_inserted, get_not_inserted, get_not_removed, get_removed}
use Rattle.ax_pages.specs.AfterPart.{most_documents}
use Rattle.ax_policy.specs.Table.{SetsCount, Table, count_at, policy_at}
use Rattle.ax_policy.specs.Table.{is_taken as is_taken_in}
use Rattle.ax_table.specs.TableAgrees.{TableAgrees, documents_under}
use Rattle.ax_table.proofs.Counting.{count, count_insert, count_remove}

abbrev bit : Bool → ℕ
bit b = cond b 1 0

test_true : (m n : ℕ) → m ≡ n → bit (m == n) ≡ 1
test_true m n e = ap bit (eq-eqb m n e)

test_false : (m n : ℕ) → (m ≡ n → ⊥) → bit (m == n) ≡ 0
test_false m n h = ap bit (false_from_ne_true (m == n) (λ e. h (eqb-true m n e)))

-- ---- counts

one_less : (number : ℕ) (old new : Table) → SetsCount number (count_at old number - 1) old new → 0 < count_at old number
    → (n : ℕ) → count_at new n + bit (number == n) ≡ count_at old n
one_less number old new sets some n =
    ⊎_elim
    (λ (same : n ≡ number).
    let one : bit (number == n) ≡ 1 = test_true number n (sym same) in
    let here : count_at new n ≡ count_at old n - 1 = ap (count_at new) same ∙ sets.changed ∙ ap (λ m. count_at old m - 1) (sym same) in
    let more : 0 < count_at old n = subst (λ m. 0 < count_at old m) (sym same) some in
    omega arith)
    (λ (apart : n ≡ number → ⊥).
    let none : bit (number == n) ≡ 0 = test_false number n (λ e. apart (sym e)) in
    let there : count_at new n ≡ count_at old n = sets.others n apart in
    omega arith)
    (cases_eq n number)

pub one_more : (number : ℕ) (old new : Table) → SetsCount number (count_at old number + 1) old new
    → (n : ℕ) → count_at new n ≡ count_at old n + bit (number == n)
one_more number old new sets n =
    ⊎_elim
    (λ (same : n ≡ number).
    let one : bit (number == n) ≡ 1 = test_true number n (sym same) in
    let here : count_at new n ≡ count_at old n + 1 = ap (count_at new) same ∙ sets.changed ∙ ap (λ m. count_at old m + 1) (sym same) in
    omega arith)
    (λ (apart : n ≡ number → ⊥).
    let none : bit (number == n) ≡ 0 = test_false number n (λ e. apart (sym e)) in
    let there : count_at new n ≡ count_at old n = sets.others n apart in
    omega arith)
    (cases_eq n number)

abbrev under : ℕ → Stored → Bool
under n document = document.policy == n

-- each document is one that was held before, or is under the policy now
abbrev AreHeldOrNow : Contents → Contents → Type 0
AreHeldOrNow old new =
    (n : ℕ) (document : Stored) → map.get new.documents n ≡ Some document
    → (map.get old.documents n ≡ Some document) ⊎ (document.policy ≡ old.policy_now)

-- a document that is held counts
pub counts_held : (contents : Contents) (number : ℕ) (old : Stored) → map.get contents.documents number ≡ Some old
    → 0 < documents_under old.policy contents
counts_held contents number old held =
    let counted : count (under old.policy) (map.entries (map.remove contents.documents number)) + bit (old.policy == old.policy)
    ≡ documents_under old.policy contents = count_remove (under old.policy) contents.documents number old held in
    let one : bit (old.policy == old.policy) ≡ 1 = test_true old.policy old.policy refl in
    omega arith

module _ (honest : Bool) (table : Table) (contents : Contents) (agrees : TableAgrees honest table contents) where
  -- a document that is held is counted
  pub is_counted : (number : ℕ) (old : Stored) → map.get contents.documents number ≡ Some old → 0 < count_at table old.policy
  is_counted number old held = subst (λ n. 0 < n) (sym (agrees.counts old.policy)) (counts_held contents number old held)

  -- and its number is in use
  pub is_taken : (number : ℕ) (old : Stored) → map.get contents.documents number ≡ Some old → IsTaken old.policy contents
  is_taken number old held = inr (record { number = number; document = old; held = held; indexed_by = refl })

  module _ (after : Table) (new : Contents) (now : new.policy_now ≡ contents.policy_now) (policies : new.policies ≡ contents.policies)
      (current : after.current ≡ table.current) (mark : after.moved ≡ table.moved) (there : (n : ℕ) → policy_at after n ≡ policy_at table n) where
    still : AreHeldOrNow contents new → ((n : ℕ) → 0 < count_at after n → (0 < count_at table n) ⊎ (n ≡ table.current))
        → ((n : ℕ) → count_at after n ≡ documents_under n new) → map.len new.documents ≤ most_documents → TableAgrees honest after new
    still held_or_now used counts few = record {
      now = current ∙ agrees.now ∙ sym now;
      given = ap (λ n. is_given n new) now ∙ same_given contents.policy_now ∙ agrees.given;
      known = λ n is. subst IsSome (sym (there n)) (agrees.known n (taken n is));
      policies = λ n policy is. agrees.policies n policy (sym (there n) ∙ is);
      apart = λ a b policy other fa fb ta tb ia ib same.
          agrees.apart a b policy other fa fb (taken_before a ta) (taken_before b tb) (sym (there a) ∙ ia) (sym (there b) ∙ ib) same;
      only_given = λ n policy is. same_given n ∙ agrees.only_given n policy (sym (there n) ∙ is);
      texts = λ h n policy is.
          subst (λ text. IsTextOf text policy) (sym (same_text n)) (agrees.texts h n policy (sym (there n) ∙ is));
      counts = counts;
      moved = λ n document below held.
          ⊎_elim
          (λ (before : map.get contents.documents n ≡ Some document).
          agrees.moved n document (subst (λ m. n < m) mark below) before ∙ sym current)
          (λ (under_now : document.policy ≡ contents.policy_now). under_now ∙ sym agrees.now ∙ sym current) (held_or_now n document held);
      few = few;
    }
      where
        -- no other number comes into use
        taken : (n : ℕ) → IsTaken n new → IsTaken n contents
        taken n (inl is) = inl (is ∙ now)
        taken n (inr used) =
            ⊎_elim
            (λ (before : map.get contents.documents used.number ≡ Some used.document).
            inr (record { number = used.number; document = used.document; held = before; indexed_by = used.indexed_by }))
            (λ (under_now : used.document.policy ≡ contents.policy_now). inl (sym used.indexed_by ∙ under_now))
            (held_or_now used.number used.document used.held)

        same_given : (n : ℕ) → is_given n new ≡ is_given n contents
        same_given n = ap (λ (p : map.FinMap nat_cmp (List ℕ)). is_given n (record contents { policies = p })) policies

        -- no other number comes into use in the table
        taken_before : (n : ℕ) → is_taken_in after n ≡ true → is_taken_in table n ≡ true
        taken_before n taken_after =
            ⊎_elim
            (λ (some : nat_lt 0 (count_at after n) ≡ true).
            ⊎_elim (λ (had : 0 < count_at table n). or_left (nat_lt 0 (count_at table n)) (n == table.current) (lt-ltb 0 (count_at table n) had))
            (λ (is : n ≡ table.current). or_right (nat_lt 0 (count_at table n)) (n == table.current) (eq-eqb n table.current is))
            (used n (ltb-true 0 (count_at after n) some)))
            (λ (is : (n == after.current) ≡ true).
            or_right (nat_lt 0 (count_at table n)) (n == table.current) (eq-eqb n table.current (eqb-true n after.current is ∙ current)))
            (or_cases (nat_lt 0 (count_at after n)) (n == after.current) taken_after)

        same_text : (n : ℕ) → policy_text n new ≡ policy_text n contents
        same_text n = ap (λ (p : map.FinMap nat_cmp (List ℕ)). policy_text n (record contents { policies = p })) policies

  -- ---- there is room for one more under each policy

  under_most : (documents : map.FinMap nat_cmp Stored) (n : ℕ) → count (under n) (map.entries documents) ≤ map.len documents
  under_most documents n =
      let most : count (under n) (map.entries documents) ≤ length (map.entries documents) =
      count_by-le-length (λ (document : ℕ × Stored). under n document.1) (map.entries documents) in
      omega (arith, most, map.len-entries documents)

  -- where one document less is held than may be
  pub room_created : map.len contents.documents < most_documents → (n : ℕ) → count_at table n < most_documents
  room_created few n = omega (arith, few, under_most contents.documents n, agrees.counts n)

  -- where one that is held was counted out
  pub room_replaced : (mid : Table) (number : ℕ) (old : Stored) → map.get contents.documents number ≡ Some old
      → SetsCount old.policy (count_at table old.policy - 1) table mid → (n : ℕ) → count_at mid n < most_documents
  room_replaced mid number old held out n =
      let without : map.FinMap nat_cmp Stored = map.remove contents.documents number in
      let less : count_at mid n + bit (old.policy == n) ≡ count_at table n =
      one_less old.policy table mid out (is_counted number old held) n in
      let moved : count (under n) (map.entries without) + bit (old.policy == n) ≡ count (under n) (map.entries contents.documents) =
      count_remove (under n) contents.documents number old held in
      let shorter : map.len without ≡ map.len contents.documents - 1 =
      map.len-remove nat_cmp_total contents.documents number
      ∙ ap (λ found. cond (is_some found) (map.len contents.documents - 1) (map.len contents.documents)) held in
      omega (arith, agrees.few, less, moved, shorter, under_most without n, agrees.counts n)

-- ---- a document takes the place of one, or is new

module _ (honest : Bool) (table : Table) (contents new : Contents) (agrees : TableAgrees honest table contents)
    (now : new.policy_now ≡ contents.policy_now) (policies : new.policies ≡ contents.policies) where
  -- where a document is put under the policy now
  put_held : (number : ℕ) (made : Stored) → new.documents ≡ map.insert contents.documents number made → made.policy ≡ contents.policy_now
      → AreHeldOrNow contents new
  put_held number made put under_now n document held =
      ⊎_elim
      (λ (same : n ≡ number).
      let found : map.get (map.insert contents.documents number made) number ≡ Some document =
      sym (ap (map.get (map.insert contents.documents number made)) same) ∙ sym (ap (λ d. map.get d n) put) ∙ held in
      let is : document ≡ made = same_some document made (sym found ∙ get_inserted contents.documents number made) in
      inr (ap (λ (d : Stored). d.policy) is ∙ under_now))
      (λ (apart : n ≡ number → ⊥).
      inl (sym (get_not_inserted contents.documents number n made apart) ∙ sym (ap (λ d. map.get d n) put) ∙ held))
      (cases_eq n number)

  -- where one is taken out
  gone_held : (number : ℕ) → new.documents ≡ map.remove contents.documents number → AreHeldOrNow contents new
  gone_held number gone n document held =
      let found : map.get (map.remove contents.documents number) n ≡ Some document = sym (ap (λ d. map.get d n) gone) ∙ held in
      ⊎_elim
      (λ (same : n ≡ number).
      absurd (some_or_none document
      (sym (get_removed contents.documents number) ∙ sym (ap (map.get (map.remove contents.documents number)) same) ∙ found)))
      (λ (apart : n ≡ number → ⊥). inl (sym (get_not_removed contents.documents number n apart) ∙ found)) (cases_eq n number)

  counted : (n : ℕ) (d : map.FinMap nat_cmp Stored) → new.documents ≡ d → documents_under n new ≡ count (under n) (map.entries d)
  counted n d is = ap (λ (m : map.FinMap nat_cmp Stored). count (under n) (map.entries m)) is

  pub agrees_replaced : (mid after : Table) (number : ℕ) (old made : Stored) → map.get contents.documents number ≡ Some old
      → new.documents ≡ map.insert contents.documents number made → made.policy ≡ contents.policy_now
      → SetsCount old.policy (count_at table old.policy - 1) table mid → SetsCount table.current (count_at mid table.current + 1) mid after
      → TableAgrees honest after new
  agrees_replaced mid after number old made held put under_now out into =
      still honest table contents agrees after new now policies (into.current ∙ out.current) (into.moved ∙ out.moved)
      (λ n. into.policies n ∙ out.policies n) (put_held number made put under_now) used counts few
    where
      some : 0 < count_at table old.policy
      some = is_counted honest table contents agrees number old held

      used : (n : ℕ) → 0 < count_at after n → (0 < count_at table n) ⊎ (n ≡ table.current)
      used n is =
          ⊎_elim (λ (now_too : n ≡ table.current). inr now_too)
          (λ (apart : n ≡ table.current → ⊥).
          let less : count_at mid n + bit (old.policy == n) ≡ count_at table n = one_less old.policy table mid out some n in
          let there : count_at after n ≡ count_at mid n = into.others n apart in
          inl (omega (arith, is, less, there)))
          (cases_eq n table.current)

      counts : (n : ℕ) → count_at after n ≡ documents_under n new
      counts n =
          let moved : count (under n) (map.entries (map.insert contents.documents number made)) + bit (old.policy == n)
          ≡ count (under n) (map.entries contents.documents) + bit (made.policy == n) =
          count_insert (under n) contents.documents number made (Some old) held in
          let less : count_at mid n + bit (old.policy == n) ≡ count_at table n = one_less old.policy table mid out some n in
          let more : count_at after n ≡ count_at mid n + bit (table.current == n) = one_more table.current mid after into n in
          let same : bit (made.policy == n) ≡ bit (table.current == n) = ap (λ p. bit (p == n)) (under_now ∙ sym agrees.now) in
          let were : count_at table n ≡ count (under n) (map.entries contents.documents) = agrees.counts n in
          let are : documents_under n new ≡ count (under n) (map.entries (map.insert contents.documents number made)) = counted n _ put in
          omega arith

      few : map.len new.documents ≤ most_documents
      few =
          let as_many : map.len (map.insert contents.documents number made) ≡ map.len contents.documents =
          map.len-insert nat_cmp_total contents.documents number made
          ∙ ap (λ found. cond (is_some found) (map.len contents.documents) (map.len contents.documents + 1)) held in
          let is : map.len new.documents ≡ map.len contents.documents = ap map.len put ∙ as_many in
          omega (arith, agrees.few, is)

  pub agrees_created : (after : Table) (number : ℕ) (made : Stored) → map.get contents.documents number ≡ None
      → map.len contents.documents < most_documents
      → new.documents ≡ map.insert contents.documents number made → made.policy ≡ contents.policy_now
      → SetsCount table.current (count_at table table.current + 1) table after → TableAgrees honest after new
  agrees_created after number made none room put under_now into =
      still honest table contents agrees after new now policies into.current into.moved into.policies (put_held number made put under_now) used counts
      few
    where
      used : (n : ℕ) → 0 < count_at after n → (0 < count_at table n) ⊎ (n ≡ table.current)
      used n is =
          ⊎_elim (λ (now_too : n ≡ table.current). inr now_too)
          (λ (apart : n ≡ table.current → ⊥). inl (subst (λ m. 0 < m) (into.others n apart) is)) (cases_eq n table.current)

      counts : (n : ℕ) → count_at after n ≡ documents_under n new
      counts n =
          let moved : count (under n) (map.entries (map.insert contents.documents number made)) + 0
          ≡ count (under n) (map.entries contents.documents) + bit (made.policy == n) =
          count_insert (under n) contents.documents number made None none in
          let more : count_at after n ≡ count_at table n + bit (table.current == n) = one_more table.current table after into n in
          let same : bit (made.policy == n) ≡ bit (table.current == n) = ap (λ p. bit (p == n)) (under_now ∙ sym agrees.now) in
          let were : count_at table n ≡ count (under n) (map.entries contents.documents) = agrees.counts n in
          let are : documents_under n new ≡ count (under n) (map.entries (map.insert contents.documents number made)) = counted n _ put in
          omega arith

      few : map.len new.documents ≤ most_documents
      few =
          let one_longer : map.len (map.insert contents.documents number made) ≡ map.len contents.documents + 1 =
          map.len-insert nat_cmp_total contents.documents number made
          ∙ ap (λ found. cond (is_some found) (map.len contents.documents) (map.len contents.documents + 1)) none in
          let is : map.len new.documents ≡ map.len contents.documents + 1 = ap map.len put ∙ one_longer in
          omega (arith, room, is)

  pub agrees_deleted : (after : Table) (number : ℕ) (old : Stored) → map.get contents.documents number ≡ Some old
      → new.documents ≡ map.remove contents.documents number
      → SetsCount old.policy (count_at table old.policy - 1) table after → TableAgrees honest after new
  agrees_deleted after number old held gone out =
      still honest table contents agrees after new now policies out.current out.moved out.policies (gone_held number gone) used counts few
    where
      used : (n : ℕ) → 0 < count_at after n → (0 < count_at table n) ⊎ (n ≡ table.current)
      used n is =
          let less : count_at after n + bit (old.policy == n) ≡ count_at table n =
          one_less old.policy table after out (is_counted honest table contents agrees number old held) n in
          inl (omega (arith, is, less))

      counts : (n : ℕ) → count_at after n ≡ documents_under n new
      counts n =
          let moved : count (under n) (map.entries (map.remove contents.documents number)) + bit (old.policy == n)
          ≡ count (under n) (map.entries contents.documents) = count_remove (under n) contents.documents number old held in
          let less : count_at after n + bit (old.policy == n) ≡ count_at table n =
          one_less old.policy table after out (is_counted honest table contents agrees number old held) n in
          let were : count_at table n ≡ count (under n) (map.entries contents.documents) = agrees.counts n in
          let are : documents_under n new ≡ count (under n) (map.entries (map.remove contents.documents number)) = counted n _ gone in
          omega arith

      few : map.len new.documents ≤ most_documents
      few =
          let shorter : map.len (map.remove contents.documents number) ≡ map.len contents.documents - 1 =
          map.len-remove nat_cmp_total contents.documents number
          ∙ ap (λ found. cond (is_some found) (map.len contents.documents - 1) (map.len contents.documents)) held in
          let is : map.len new.documents ≡ map.len contents.documents - 1 = ap map.len gone ∙ shorter in
          omega (arith, agrees.few, is)
