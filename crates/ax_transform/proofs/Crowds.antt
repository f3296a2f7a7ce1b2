-- As many other policies are in use in the table as documents of the container are indexed by: the numbers that are in use and
-- the texts of the policies are one for one.
use Rattle.std.proofs.Common.{◌≡◌, inr, ℕ, ◌<◌, ◌≤◌, List, [], ◌∷◌, length, map, Bool, true, false, cond, Option, Some, None, refl, sym, ap, ap₂, subst, ◌∙◌, arith}
use Rattle.std.specs.Prelude.{◌&&◌, ◌==◌, not, IsSome, IsTrue, Result, Ok, Err}
use Rattle.std.specs.FinMap as finite
use Rattle.std.specs.List.{filter}
use Rattle.std.specs.Str.{bytes_eq}
use Rattle.std.proofs.lemmas.Bool.{eq-eqb, eqb-true, le-leb, lt-leb, lt-ltb, ltb-true, or_left}
use Rattle.std.proofs.lemmas.List.Sums.{length-filter}
use Rattle.ax_area.specs.Contents.{Contents, Stored}
use Rattle.ax_container.specs.Container.{Container, Entry}
use Rattle.ax_container.specs.Reindexing.{PolicyRefusal, Policies, distinct, repoliced, with_policy}
use Rattle.ax_container.specs.Reindexing as container_of
use Rattle.ax_image.specs.StandsFor.{AreUnder}
use Rattle.ax_image_grammar.specs.Table.{IsTaken, policy_text}
use Rattle.ax_policy.specs.Normal.{normal_text}
use Rattle.ax_policy.specs.Table.{Table, count_at, is_other, is_taken, is_text_of, is_used, most_others, numbers, others_in_use, policy_at}
use Rattle.ax_policy.specs.declared.policy.Policy.{Policy}
use Rattle.ax_table.specs.TableAgrees.{TableAgrees, is_under}
use Rattle.ax_transform.proofs.FewNumbers.{HasFewNumbers}
use Rattle.ax_transform.proofs.Listed.{found_in}
use Rattle.ax_transform.proofs.Lists.{In, distinct_no_twice, filter_no_twice, in_distinct, in_filter, in_map, no_more, of_distinct, of_filter}
use Rattle.ax_transform.proofs.Lists.{of_map, one_counted, some_counted}
use Rattle.ax_transform.proofs.Numbers.{in_numbers, no_number_twice}

-- ---- the texts of the entries are those of the documents' numbers

abbrev text_of : (ℕ → List ℕ) → ℕ × Stored → List ℕ
text_of texts d = texts d.1.policy

abbrev entry_text : Entry → List ℕ
entry_text entry = normal_text entry.indexed_by

same_texts : (texts : ℕ → List ℕ) (documents : List (ℕ × Stored)) (entries : List Entry) → AreUnder texts documents entries
    → map entry_text entries ≡ map (text_of texts) documents
same_texts texts [] [] under = refl
same_texts texts [] (e ∷ entries) under = absurd under
same_texts texts (d ∷ documents) [] under = absurd under
same_texts texts (d ∷ documents) (e ∷ entries) under =
    ap₂ (λ (t : List ℕ) (ts : List (List ℕ)). t ∷ ts) (sym under.0.spelled) (same_texts texts documents entries under.1)

not_back : (b : Bool) → not b ≡ true → b ≡ false
not_back true is = absurd cc
not_back false is = refl

both_of : (a b : Bool) → (a && b) ≡ true → (a ≡ true) × (b ≡ true)
both_of true b is = (refl, is)
both_of false b is = absurd cc

both_are : (a b : Bool) → a ≡ true → b ≡ true → (a && b) ≡ true
both_are a b x y = λ i. x i && y i

module _ (honest : Bool) (trusted : IsTrue honest) (table : Table) (contents : Contents) (few : HasFewNumbers table)
    (agrees : TableAgrees honest table contents) where
  abbrev documents : List (ℕ × Stored)
  documents = finite.entries contents.documents

  abbrev texts : ℕ → List ℕ
  texts n = policy_text n contents

  -- what is so of a number under which a document is
  record IsInUse (n : ℕ) : Type 0 where
    own : Policy
    at : policy_at table n ≡ Some own
    text : texts n ≡ normal_text own
    used : is_used table n ≡ true
    within : n ≤ 8

  counted : (d : ℕ × Stored) → In d documents → 0 < count_at table d.1.policy
  counted d there =
      subst (λ n. 0 < n) (sym (agrees.counts d.1.policy))
      (some_counted (is_under d.1.policy) documents d there (eq-eqb d.1.policy d.1.policy refl))

  taken_of : (d : ℕ × Stored) → In d documents → IsTaken d.1.policy contents
  taken_of d there = inr (record {
    number = d.0;
    document = d.1;
    held = finite.get-entries contents.documents d.0 ∙ found_in documents d (finite.entries_sorted contents.documents) there;
    indexed_by = refl;
  })

  own_of : (found : Option Policy) → IsSome found → (own : Policy) × (found ≡ Some own)
  own_of None some = absurd cc
  own_of (Some own) some = (own, refl)

  in_use : (d : ℕ × Stored) → In d documents → IsInUse d.1.policy
  in_use d there =
      let own = own_of (policy_at table d.1.policy) (agrees.known d.1.policy (taken_of d there)) in
      record {
        own = own.0;
        at = own.1;
        text = (agrees.texts trusted d.1.policy own.0 own.1).spelled;
        used = lt-ltb 0 (count_at table d.1.policy) (counted d there);
        within = few d.1.policy own.0 own.1;
      }

  document_of : (n : ℕ) → is_used table n ≡ true → (d : ℕ × Stored) × In d documents × (d.1.policy ≡ n)
  document_of n used =
      let it = one_counted (is_under n) documents (subst (λ m. 0 < m) (agrees.counts n) (ltb-true 0 (count_at table n) used)) in
      (it.0, it.1, eqb-true it.0.1.policy n it.2)

  module _ (policy : Policy) (container : Container) (under : AreUnder texts documents container.entries) where
    abbrev text : List ℕ
    text = normal_text policy

    abbrev used_by : List ℕ
    used_by = filter (is_other text table) numbers

    abbrev differs : List ℕ → Bool
    differs t = not (bytes_eq t text)

    abbrev others : List (List ℕ)
    others = filter differs (map entry_text container.entries)

    entries_are : map entry_text container.entries ≡ map (text_of texts) documents
    entries_are = same_texts texts documents container.entries under

    -- a number in use has the text of another policy exactly where that text differs
    other_is : (n : ℕ) (its : IsInUse n) → is_other text table n ≡ differs (texts n)
    other_is n its =
        ap₂ (λ a b. a && not b) its.used (ap (is_text_of text) its.at ∙ ap (λ t. bytes_eq t text) (sym its.text))

    number_of : (t : List ℕ) → In t (distinct others) → (n : ℕ) × In n used_by × (texts n ≡ t)
    number_of t there =
        let kept = of_filter differs (map entry_text container.entries) t (of_distinct t others there) in
        let it = of_map (text_of texts) documents t (subst (In t) entries_are kept.0) in
        let its = in_use it.0 it.1 in (
          it.0.1.policy,
          in_filter (is_other text table) numbers it.0.1.policy (in_numbers it.0.1.policy its.within)
              (other_is it.0.1.policy its ∙ sym (ap differs it.2) ∙ kept.1),
          sym it.2,
        )

    text_there : (n : ℕ) → In n used_by → (t : List ℕ) × In t (distinct others) × (texts n ≡ t)
    text_there n there =
        let other = (of_filter (is_other text table) numbers n there).1 in
        let it = document_of n (both_of (is_used table n) _ other).0 in
        let its : IsInUse n = subst IsInUse it.2 (in_use it.0 it.1) in
        let among : In (texts n) (map entry_text container.entries) =
        subst (In (texts n)) (sym entries_are)
        (subst (λ m. In (texts m) (map (text_of texts) documents)) it.2 (in_map (text_of texts) documents it.0 it.1)) in (
          texts n,
          in_distinct (texts n) others (in_filter differs (map entry_text container.entries) (texts n) among (sym (other_is n its) ∙ other)),
          refl,
        )

    -- what is known of a number of those
    use_of : (n : ℕ) → In n used_by → IsInUse n
    use_of n there =
        let other = (of_filter (is_other text table) numbers n there).1 in
        let it = document_of n (both_of (is_used table n) _ other).0 in
        subst IsInUse it.2 (in_use it.0 it.1)

    taken_in : (n : ℕ) → is_used table n ≡ true → is_taken table n ≡ true
    taken_in n used = or_left (is_used table n) (n == table.current) used

    one_number : (a b : ℕ) → IsInUse a → IsInUse b → texts a ≡ texts b → a ≡ b
    one_number a b ua ub same =
        agrees.apart a b ua.own ub.own ua.within ub.within (taken_in a ua.used) (taken_in b ub.used) ua.at ub.at
        (sym ua.text ∙ same ∙ ub.text)

    no_fewer : length (distinct others) ≤ length used_by
    no_fewer =
        no_more (λ (t : List ℕ) (n : ℕ). texts n ≡ t) (distinct others) used_by (distinct_no_twice others) number_of
        (λ t u n tt uu one two. sym one ∙ two)

    no_fewer_texts : length used_by ≤ length (distinct others)
    no_fewer_texts =
        no_more (λ (n : ℕ) (t : List ℕ). texts n ≡ t) used_by (distinct others)
        (filter_no_twice (is_other text table) numbers no_number_twice) text_there
        (λ a b t ta tb one two. one_number a b (use_of a ta) (use_of b tb) (one ∙ sym two))

    pub as_many : others_in_use policy table ≡ length (container_of.others_in_use policy container)
    as_many = omega (arith, no_fewer, no_fewer_texts, length-filter (is_other text table) numbers)

    -- ---- what the container says

    abbrev refused : Result Container PolicyRefusal
    refused = Err Policies

    abbrev taken : Result Container PolicyRefusal
    taken = Ok (with_policy policy container)

    pub spacious : others_in_use policy table < most_others → repoliced policy container ≡ Ok (with_policy policy container)
    spacious room =
        ap (λ b. cond b refused taken)
        (lt-leb container_of.most_others (length (container_of.others_in_use policy container)) (omega (arith, room, as_many)))

    pub crowded : most_others ≤ others_in_use policy table → repoliced policy container ≡ Err Policies
    crowded many =
        ap (λ b. cond b refused taken)
        (le-leb container_of.most_others (length (container_of.others_in_use policy container)) (omega (arith, many, as_many)))
