-- What the contents hold after a policy was made the one now: the container with another policy, with the same index.
use Rattle.std.proofs.Common.{◌≡◌, ◌⊎◌, inl, inr, ⊎_elim, ℕ, ◌<◌, Bool, true, false, List, [], ◌∷◌, find, Option, Some, None, refl, sym, ap, subst, ◌∙◌, arith}
use Rattle.std.specs.Prelude.{◌==◌, ◌&&◌, IsSome, IsTrue, nat_lt}
use Rattle.std.specs.FinMap as finite
use Rattle.std.proofs.lemmas.Bool.{cases_eq, eq-eqb, lt-ltb, or_left, or_right}
use Rattle.ax_area.proofs.OneTelling.{same_some}
use Rattle.ax_area.specs.Contents.{Contents, Stored, is_given}
use Rattle.ax_container.proofs.Soundness.{sound_with_policy}
use Rattle.ax_container.specs.Container.{Container, Entry, NumbersRise}
use Rattle.ax_container.specs.Reindexing.{with_policy}
use Rattle.ax_image.specs.StandsFor.{AreUnder, ShowEntries}
use Rattle.ax_image_grammar.specs.Payloads.{IsTextOf}
use Rattle.ax_image_grammar.specs.Table.{AreApart, IsTaken, policy_text}
use Rattle.ax_image_pairs.specs.Indexed.{ContentsHoldAll, HoldPairs}
use Rattle.ax_policy.specs.Normal.{normal_text}
use Rattle.ax_policy.specs.Paths.{either}
use Rattle.ax_policy.specs.Table.{Table, count_at, is_free, is_same, is_taken, is_text_of, number_for, numbers, policy_at}
use Rattle.ax_policy.specs.declared.policy.Policy.{Policy}
use Rattle.ax_table.proofs.Agreeing.{counts_held}
use Rattle.ax_table.specs.TableAgrees.{TableAgrees, documents_under, is_under}
use Rattle.ax_transform.specs.Parts.{is_written, next_told}
use Rattle.ax_transform.proofs.FewNumbers.{HasFewNumbers}
use Rattle.ax_transform.proofs.Lists.{In, none_left}
use Rattle.ax_transform.proofs.Numbers.{both_true, found_passes, found_there, has_written, in_numbers, unwritten_unused, written_has}
use Rattle.ax_transform.proofs.Said.{same_told, set_in}
use Rattle.ax_transform.proofs.Tables.{now_given, now_text, others_text}

-- ---- documents stay under the policies by which they are indexed

under_still : (old new : ℕ → List ℕ) (number : ℕ) (documents : List (ℕ × Stored)) (entries : List Entry)
    → ((n : ℕ) → (n ≡ number → ⊥) → new n ≡ old n) → ((d : ℕ × Stored) → In d documents → d.1.policy ≡ number → ⊥)
    → AreUnder old documents entries → AreUnder new documents entries
under_still old new number [] [] same none under = tt
under_still old new number [] (e ∷ entries) same none under = absurd under
under_still old new number (d ∷ documents) [] same none under = absurd under
under_still old new number (d ∷ documents) (e ∷ entries) same none under = (
  subst (λ text. IsTextOf text e.indexed_by) (sym (same d.1.policy (none d (inl refl)))) under.0,
  under_still old new number documents entries same (λ x there. none x (inr there)) under.1,
)

none_under : (contents : Contents) (number : ℕ) → documents_under number contents ≡ 0 → (d : ℕ × Stored)
    → In d (finite.entries contents.documents) → d.1.policy ≡ number → ⊥
none_under contents number none d there same =
    let other : (d.1.policy == number) ≡ false = none_left (is_under number) (finite.entries contents.documents) d none there in
    let e : true ≡ false = sym (eq-eqb d.1.policy number same) ∙ other in
    absurd cc

some_next : (before next : ℕ) (entries : List Entry) → NumbersRise before entries next → 0 < next
some_next before next [] rise = omega (arith, rise)
some_next before next (e ∷ entries) rise = some_next e.number next entries rise.1

own_of : (found : Option Policy) → IsSome found → (own : Policy) × (found ≡ Some own)
own_of None some = absurd cc
own_of (Some own) some = (own, refl)

-- a number is taken after the change that is now, or that was in use
taken_before : (has : Bool) (next number : ℕ) (policy : Policy) (contents : Contents) (n : ℕ)
    → IsTaken n (set_in has next number policy contents) → (n ≡ number) ⊎ IsTaken n contents
taken_before true next number policy contents n (inl is) = inl is
taken_before false next number policy contents n (inl is) = inl is
taken_before true next number policy contents n (inr used) =
    inr (inr (record { number = used.number; document = used.document; held = used.held; indexed_by = used.indexed_by }))
taken_before false next number policy contents n (inr used) =
    inr (inr (record { number = used.number; document = used.document; held = used.held; indexed_by = used.indexed_by }))

module _ (honest : Bool) (trusted : IsTrue honest) (table : Table) (contents : Contents) (few : HasFewNumbers table)
    (agrees : TableAgrees honest table contents) (policy : Policy) (of : IsTextOf (normal_text policy) policy) (number next : ℕ)
    (given : number_for policy table ≡ Some number) where
  -- ---- no two numbers that are in use or now have one text

  taken_here : (n : ℕ) → IsTaken n contents → is_taken table n ≡ true
  taken_here n (inl is) = or_right (nat_lt 0 (count_at table n)) (n == table.current) (eq-eqb n table.current (is ∙ sym agrees.now))
  taken_here n (inr used) =
      or_left (nat_lt 0 (count_at table n)) (n == table.current)
      (lt-ltb 0 (count_at table n)
      (subst (λ m. 0 < count_at table m) used.indexed_by
      (subst (λ m. 0 < m) (sym (agrees.counts used.document.policy)) (counts_held contents used.number used.document used.held))))

  both_of : (a b : Bool) → (a && b) ≡ true → (a ≡ true) × (b ≡ true)
  both_of true b is = (refl, is)
  both_of false b is = absurd cc

  -- the first number of the policy's text is the one that it is given, and none other has the text
  first_same : (n : ℕ) (own : Policy) → policy_at table n ≡ Some own → is_taken table n ≡ true → normal_text own ≡ normal_text policy
      → (m : ℕ) × (find (is_same (normal_text policy) table) numbers ≡ Some m) → n ≡ number
  first_same n own at taken alike (m, found) =
      let parts = both_of (is_taken table m) (is_text_of (normal_text policy) (policy_at table m))
      (found_passes (is_same (normal_text policy) table) numbers m found) in
      let other = written_has policy (policy_at table m) parts.1 in
      let texts : normal_text own ≡ normal_text other.0 = alike ∙ sym other.2 in
      let first : n ≡ m = agrees.apart n m own other.0 (few n own at) (few m other.0 other.1) taken parts.0 at other.1 texts in
      let chosen : number_for policy table ≡ Some m = ap (λ o. either o (find (is_free table) numbers)) found in
      let one : m ≡ number = same_some m number (sym chosen ∙ given) in
      first ∙ one

  -- a number that was in use or now and has the policy's text is the one that it is given
  its_number : (n : ℕ) → IsTaken n contents → policy_text n contents ≡ normal_text policy → n ≡ number
  its_number n taken text =
      let own = own_of (policy_at table n) (agrees.known n taken) in
      let there = agrees.texts trusted n own.0 own.1 in
      let alike : normal_text own.0 ≡ normal_text policy = sym there.spelled ∙ text in
      let has : is_text_of (normal_text policy) (policy_at table n) ≡ true = has_written policy (policy_at table n) own.0 own.1 alike in
      let same : is_same (normal_text policy) table n ≡ true =
      both_true (is_taken table n) (is_text_of (normal_text policy) (policy_at table n)) (taken_here n taken) has in
      first_same n own.0 own.1 (taken_here n taken) alike
      (found_there (is_same (normal_text policy) table) numbers n (in_numbers n (few n own.0 own.1)) same)

  module _ (has : Bool) (written : is_written policy table number ≡ has) where
    abbrev new : Contents
    new = set_in has next number policy contents

    text_now : policy_text number new ≡ normal_text policy
    text_now = (now_text honest table contents agrees policy of number next trusted has written).spelled

    text_still : (n : ℕ) → (n ≡ number → ⊥) → policy_text n new ≡ policy_text n contents
    text_still n apart = others_text honest table contents agrees policy of number next has n apart

    before_of : (n : ℕ) → (n ≡ number → ⊥) → IsTaken n new → IsTaken n contents
    before_of n apart taken =
        ⊎_elim (λ (same : n ≡ number). absurd (apart same)) (λ (before : IsTaken n contents). before)
        (taken_before has next number policy contents n taken)

    one_is : (n : ℕ) → IsTaken n new → policy_text n new ≡ normal_text policy → n ≡ number
    one_is n taken text =
        ⊎_elim (λ (same : n ≡ number). same)
        (λ (apart : n ≡ number → ⊥). its_number n (before_of n apart taken) (sym (text_still n apart) ∙ text))
        (cases_eq n number)

    pub apart_in : AreApart contents → AreApart new
    apart_in apart a b ta tb same =
        ⊎_elim
        (λ (first : a ≡ number). first ∙ sym (one_is b tb (sym same ∙ ap (λ n. policy_text n new) first ∙ text_now)))
        (λ (other : a ≡ number → ⊥).
        ⊎_elim
        (λ (second : b ≡ number). one_is a ta (same ∙ ap (λ n. policy_text n new) second ∙ text_now) ∙ sym second)
        (λ (another : b ≡ number → ⊥).
        apart a b (before_of a other ta) (before_of b another tb) (sym (text_still a other) ∙ same ∙ text_still b another))
        (cases_eq b number))
        (cases_eq a number)

-- ---- the container with another policy

module _ (contents : Contents) (before : Container) (hold : ContentsHoldAll contents before) (policy : Policy) (number next : ℕ)
    (same_next : next ≡ contents.next_number)
    (others : (has : Bool) (n : ℕ) → (n ≡ number → ⊥) → policy_text n (set_in has next number policy contents) ≡ policy_text n contents) where
  under_in : (has : Bool) → (has ≡ false → documents_under number contents ≡ 0)
      → AreUnder (λ n. policy_text n (set_in has next number policy contents))
      (finite.entries (set_in has next number policy contents).documents) before.entries
  under_in true none = hold.documents.show.under
  under_in false none =
      under_still (λ n. policy_text n contents) (λ n. policy_text n (set_in false next number policy contents)) number
      (finite.entries contents.documents) before.entries (others false) (none_under contents number (none refl)) hold.documents.show.under

  shown_in : (has : Bool) → ShowEntries (finite.entries (set_in has next number policy contents).documents) before.entries
  shown_in true = hold.documents.show.shown
  shown_in false = hold.documents.show.shown

  pairs_in : (has : Bool) → HoldPairs (set_in has next number policy contents).terms (with_policy policy before)
  pairs_in true = record { set = hold.pairs.set; is = hold.pairs.is; exact = hold.pairs.exact }
  pairs_in false = record { set = hold.pairs.set; is = hold.pairs.is; exact = hold.pairs.exact }

  next_in : (has : Bool) → (set_in has next number policy contents).next_number ≡ before.next_number
  next_in true = same_next ∙ hold.documents.show.next
  next_in false = same_next ∙ hold.documents.show.next

  now_in : (has : Bool) → (set_in has next number policy contents).policy_now ≡ number
  now_in true = refl
  now_in false = refl

  held_with : (has : Bool) → (has ≡ false → documents_under number contents ≡ 0)
      → IsTextOf (policy_text number (set_in has next number policy contents)) policy
      → is_given number (set_in has next number policy contents) ≡ true
      → AreApart (set_in has next number policy contents)
      → ContentsHoldAll (set_in has next number policy contents) (with_policy policy before)
  held_with has none text given apart =
      let new : Contents = set_in has next number policy contents in
      record {
        documents = record {
          show = record {
            next = next_in has;
            shown = shown_in has;
            under = under_in has none;
            policy = subst (λ n. IsTextOf (policy_text n new) policy) (sym (now_in has)) text;
            sound = sound_with_policy policy before hold.documents.show.sound;
          };
          given = ap (λ n. is_given n new) (now_in has) ∙ given;
          apart = apart;
        };
        pairs = pairs_in has;
      }

-- the next number of contents that hold a container is one that can be told
next_some : (contents : Contents) (before : Container) → ContentsHoldAll contents before → 0 < contents.next_number
next_some contents before hold =
    let some : 0 < before.next_number = some_next 0 before.next_number before.entries hold.documents.show.sound.numbers in
    omega (arith, some, hold.documents.show.next)

pub holds_with : (honest : Bool) → IsTrue honest → (table : Table) (contents : Contents) → HasFewNumbers table
    → TableAgrees honest table contents → (policy : Policy) → IsTextOf (normal_text policy) policy → (number next : ℕ)
    → number_for policy table ≡ Some number → next ≡ contents.next_number → (before : Container) → ContentsHoldAll contents before
    → ContentsHoldAll (set_in (is_written policy table number) (next_told next) number policy contents) (with_policy policy before)
holds_with honest trusted table contents few agrees policy of number next given next_is before hold =
    let has : Bool = is_written policy table number in
    let told : ℕ = next_told next in
    held_with contents before hold policy number told
    (same_told next (omega (arith, next_some contents before hold, next_is)) ∙ next_is)
    (others_text honest table contents agrees policy of number told) has
    (λ unwritten. sym (agrees.counts number) ∙ unwritten_unused policy table number given unwritten)
    (now_text honest table contents agrees policy of number told trusted has refl)
    (now_given honest table contents agrees policy of number told has refl)
    (apart_in honest trusted table contents few agrees policy of number told given has refl hold.documents.apart)
