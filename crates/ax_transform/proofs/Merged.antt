-- What the parts that merge term pages lead to, and that they can be read; and what a call tells and leaves that commits
-- them, or that commits nothing.
use Rattle.std.proofs.Common.{◌≡◌, ◌⊎◌, inl, inr, ⊎_elim, ℕ, ◌<◌, ◌≤◌, ◌+◌, ◌==◌, Bool, true, false, List, [], ◌∷◌, length, Result, Ok, Err}
use Rattle.std.proofs.Common.{Option, Some, None, refl, sym, ap, subst, ◌∙◌, arith}
use Rattle.std.specs.Prelude.{◌≢◌, ◌&&◌, ◌||◌, if◌then◌else◌, is_some, IfErr, IsTrue}
use Rattle.std.specs.FinMap as finite
use Rattle.std.specs.List.{AllByRecursion}
use Rattle.std.proofs.lemmas.Bool.{cases_lt, eq-eqb, eqb-true}
use Rattle.std.proofs.lemmas.List.{get_or_past}
use Rattle.ax_area.proofs.OneTelling.{first_step, same_some, some_or_none}
use Rattle.ax_area.specs.Changes.{Change, Numbers, Written, change_by}
use Rattle.ax_area.specs.Changes as change
use Rattle.ax_area.specs.Contents.{Contents, after_change, after_changes, follows, has_room, is_allowed, is_given, no_contents, with_change}
use Rattle.ax_area.specs.Image.{Says}
use Rattle.ax_area.specs.Kinds.{kind_in}
use Rattle.ax_area.specs.Parts.{after_parts, change_said, changes_said}
use Rattle.ax_area_laws.proofs.Refusing.{no_kind}
use Rattle.ax_area_laws.proofs.Stepping.{kind_number}
use Rattle.ax_cache.specs.Pages.{CachedPages}
use Rattle.ax_container.specs.Container.{Container}
use Rattle.ax_disk.specs.laws.StaysLaws.{idles_stay, stays_join, stays_turn}
use Rattle.ax_disk.specs.model.Calls.{Idles}
use Rattle.ax_disk.specs.model.Image.{Image}
use Rattle.ax_disk.specs.model.Moments.{History}
use Rattle.ax_disk.specs.model.Pending.{MayLeave}
use Rattle.ax_disk.specs.model.Stays.{Rests, Stays, Turns}
use Rattle.ax_frame.specs.Part.{PartValue}
use Rattle.ax_image.specs.Readable.{SaysReadable, newest}
use Rattle.ax_image_grammar.specs.Payloads.{IsBasePayload, IsReadable}
use Rattle.ax_image_grammar.specs.Table.{IsTaken, IsUsed}
use Rattle.ax_image_pairs.proofs.Beside.{held_beside}
use Rattle.ax_image_pairs.specs.Indexed.{ContentsHoldAll, HasAll}
use Rattle.ax_index.specs.Carried.{bases_put, is_base_kind}
use Rattle.ax_index.specs.Damage.{FailsBy, TellsPart}
use Rattle.ax_index.specs.Merging.{IsMergePlan, bases_due}
use Rattle.ax_index.specs.Bare.{has_deltas}
use Rattle.ax_index.specs.Reads.{KeepsTaken, Reserves}
use Rattle.ax_log.specs.Log.{log_area}
use Rattle.ax_pages.proofs.LastPart.{get_inserted, get_not_inserted}
use Rattle.ax_pages.proofs.TermLists.{base_place, put_other, put_there}
use Rattle.ax_pages.specs.AfterPart.{kind_of, with_base}
use Rattle.ax_pages.specs.Contents.{TermPage, no_term_page, term_page}
use Rattle.ax_pages.specs.declared.numbers.TheConstants.{NEWEST_VERSION}
use Rattle.ax_pages.specs.declared.page.Kind.{Kind}
use Rattle.ax_pages.specs.declared.page.Kind.TheVariants as kind
use Rattle.ax_pairs.specs.Index.{IsIndex}
use Rattle.ax_pairs.specs.PagePairs.{AreOfBase, IsBase}
use Rattle.ax_pairs.specs.PairSets.{PairSet}
use Rattle.ax_store.proofs.StoreLemmas.{agrees_says}
use Rattle.ax_store.specs.Batch.{AreAllowed}
use Rattle.ax_store.specs.Faults.{HasDiskCause}
use Rattle.ax_store.specs.Kept.{deltas_by_kind, deltas_of}
use Rattle.ax_store.specs.Store.{Agrees, SaysMore, SaysOf, store_contents, store_failed, store_slots}
use Rattle.ax_store.specs.declared.fault.StoreFault.{StoreFault}
use Rattle.ax_store.specs.declared.fault.StoreFault.TheVariants as store_fault
use Rattle.ax_store.specs.declared.store.Store.{Store}
use Rattle.ax_table.specs.TableAgrees.{TableAgrees}
use Rattle.ax_policy.specs.Table.{Table}
use Rattle.ax_transform.proofs.Committing.{AnyMoment}
use Rattle.ax_transform.proofs.Leaving.{turned}
use Rattle.ax_transform.specs.Merges.{done_of}
use Rattle.ax_transform.specs.Steps.{as_write}
use Rattle.ax_write.proofs.Idling.{idles_of}
use Rattle.ax_write.proofs.PartsSaid.{AreSaid, said_leads, said_of, says_first}
use Rattle.ax_write.proofs.Passing.{kept_by_look, tells_failed}
use Rattle.ax_write.proofs.StayReadable.{readable_by}
use Rattle.ax_write.proofs.Writing.{left_behind}
use Rattle.ax_write.specs.Committed.{IsBrief}
use Rattle.ax_write.specs.Writes.{HoldsAll, TellsDamage, TellsWrite, WriteLeaves}
use Rattle.ax_write.specs.declared.fault.WriteFault.TheVariants as fault

-- ---- what a part says, by its kind

abbrev said_by_number : PartValue → ℕ → Option Change
said_by_number part n = change_by (kind_in NEWEST_VERSION n) part []

passed : {A : Type 0} (test : Bool) (x y : A) → (if test then Some x else None) ≡ Some y → (test ≡ true) × (y ≡ x)
passed true x y e = (refl, sym (same_some x y e))
passed false x y e = absurd (some_or_none y e)

-- what holds of the kinds, each with the change that it says, holds of a part and what it says
by_kinds : {X : Type 0} (part : PartValue) (c : Change) → change_said part ≡ Some c → (of_kind : Option Kind → X) (of_change : Change → X)
    → ((numbers : Numbers) → of_kind (Some kind.Meta) ≡ of_change (change.Meta numbers))
    → of_kind (Some kind.Policy) ≡ of_change (change.Policy part.key part.payload)
    → ((written : Written) → of_kind (Some kind.Document) ≡ of_change (change.Document part.key written))
    → of_kind (Some kind.Gone) ≡ of_change (change.Gone part.key)
    → of_kind (Some kind.Base) ≡ of_change (change.Base part.key part.payload)
    → of_kind (Some kind.Delta) ≡ of_change (change.Delta part.key part.payload)
    → of_kind (kind_of part.kind) ≡ of_change c
by_kinds {X} part c says of_kind of_change meta policy document gone base delta = by_found (kind_of part.kind) refl
  where
    as_number : (n : ℕ) → part.kind ≡ n → said_by_number part n ≡ Some c
    as_number n e = sym (ap (said_by_number part) e) ∙ says

    by_found : (found : Option Kind) → kind_of part.kind ≡ found → of_kind (kind_of part.kind) ≡ of_change c
    by_found None is =
        absurd (some_or_none c (sym (ap (λ k. change_by k part []) (no_kind part.kind is)) ∙ says))
    by_found (Some kind.Meta) is =
        ap of_kind is ∙ meta _ ∙ ap of_change (sym (passed _ _ c (as_number 1 (kind_number part.kind kind.Meta is))).1)
    by_found (Some kind.Policy) is =
        ap of_kind is ∙ policy ∙ ap of_change (sym (passed _ _ c (as_number 2 (kind_number part.kind kind.Policy is))).1)
    by_found (Some kind.Document) is =
        ap of_kind is ∙ document _ ∙ ap of_change (sym (passed _ _ c (as_number 3 (kind_number part.kind kind.Document is))).1)
    by_found (Some kind.Gone) is =
        ap of_kind is ∙ gone ∙ ap of_change (sym (passed _ _ c (as_number 4 (kind_number part.kind kind.Gone is))).1)
    by_found (Some kind.Base) is =
        ap of_kind is ∙ base ∙ ap of_change (sym (passed _ _ c (as_number 5 (kind_number part.kind kind.Base is))).1)
    by_found (Some kind.Delta) is =
        ap of_kind is ∙ delta ∙ ap of_change (same_some _ c (as_number 6 (kind_number part.kind kind.Delta is)))

abbrev put_in : Bool → List ℕ → List (List ℕ) → List (List ℕ)
put_in test payload payloads = if test then payload ∷ payloads else payloads

-- the bases of a page with those of one change before them
abbrev base_before : ℕ → Change → List (List ℕ) → List (List ℕ)
base_before n (change.Base page payload) payloads = put_in (page == n) payload payloads
base_before n other payloads = payloads

-- how many deltas of a page a change is
abbrev deltas_by : ℕ → Change → ℕ
deltas_by n (change.Delta page payload) = if page == n then 1 else 0
deltas_by n other = 0

module _ (n : ℕ) (part : PartValue) (c : Change) (says : change_said part ≡ Some c) (parts : List PartValue) where
  bases_first : bases_put n (part ∷ parts) ≡ base_before n c (bases_put n parts)
  bases_first =
      by_kinds part c says (λ (k : Option Kind). put_in (is_base_kind k && part.key == n) part.payload (bases_put n parts))
      (λ c. base_before n c (bases_put n parts)) (λ numbers. refl) refl (λ written. refl) refl refl refl

  deltas_first : deltas_of n (part ∷ parts) ≡ deltas_by n c + deltas_of n parts
  deltas_first =
      by_kinds part c says (λ (k : Option Kind). deltas_by_kind k part.key n + deltas_of n parts)
      (λ c. deltas_by n c + deltas_of n parts) (λ numbers. refl) refl (λ written. refl) refl refl refl

-- ---- what leads from term pages to term pages, whatever else a store has, puts bases alone

-- no policy, no document and no delta
abbrev IsOfBases : Change → Type 0
IsOfBases (change.Meta numbers) = Unit {0}
IsOfBases (change.Policy number text) = ⊥
IsOfBases (change.Document number written) = ⊥
IsOfBases (change.Gone number) = Unit {0}
IsOfBases (change.Base page payload) = Unit {0}
IsOfBases (change.Delta page payload) = ⊥

stepped : (c : Change) (a b : Contents) → after_change c a ≡ Some b → b ≡ with_change c a
stepped c a b e = (passed (is_allowed c a) (with_change c a) b e).1

allowed : (c : Change) (a b : Contents) → after_change c a ≡ Some b → is_allowed c a ≡ true
allowed c a b e = (passed (is_allowed c a) (with_change c a) b e).0

or_true : (b c : Bool) → c ≡ true → (b || c) ≡ true
or_true true c e = refl
or_true false c e = e

-- contents that something said a version stay so
versioned_step : (c : Change) (a : Contents) → a.versioned ≡ true → (with_change c a).versioned ≡ true
versioned_step (change.Meta numbers) a is = or_true (is_some numbers.version) a.versioned is
versioned_step (change.Policy number text) a is = is
versioned_step (change.Document number written) a is = or_true (is_some written.version) a.versioned is
versioned_step (change.Gone number) a is = is
versioned_step (change.Base page payload) a is = is
versioned_step (change.Delta page payload) a is = is

versioned_stays : (changes : List Change) (a b : Contents) → after_changes changes a ≡ Some b → a.versioned ≡ true → b.versioned ≡ true
versioned_stays [] a b e is = ap (λ (x : Contents). x.versioned) (sym (same_some a b e)) ∙ is
versioned_stays (c ∷ changes) a b e is =
    let by = first_step c changes a b e in
    versioned_stays changes by.between b by.others
    (ap (λ (x : Contents). x.versioned) (stepped c a by.between by.first) ∙ versioned_step c a is)

-- a number of a policy that was given stays so
abbrev has_policy : ℕ → Contents → Bool
has_policy n contents = is_some (finite.get contents.policies n)

policy_step : (n : ℕ) (c : Change) (a : Contents) → has_policy n a ≡ true → has_policy n (with_change c a) ≡ true
policy_step n (change.Meta numbers) a is = is
policy_step n (change.Policy number text) a is =
    elim (number == n) as (λ b. (number == n) ≡ b → has_policy n (with_change (change.Policy number text) a) ≡ true) [
      | true ↦ λ e. ap (λ m. is_some (finite.get (finite.insert a.policies number text) m)) (sym (eqb-true number n e))
          ∙ ap is_some (get_inserted a.policies number text)
      | false ↦ λ e. ap is_some (get_not_inserted a.policies number n text (λ same. not_same number n e same)) ∙ is
    ] refl
  where
    not_same : (m n : ℕ) → (m == n) ≡ false → n ≡ m → ⊥
    not_same m n e same = let is : (m == n) ≡ true = eq-eqb m n (sym same) in absurd cc
policy_step n (change.Document number written) a is = is
policy_step n (change.Gone number) a is = is
policy_step n (change.Base page payload) a is = is
policy_step n (change.Delta page payload) a is = is

policy_stays : (n : ℕ) (changes : List Change) (a b : Contents) → after_changes changes a ≡ Some b → has_policy n a ≡ true
    → has_policy n b ≡ true
policy_stays n [] a b e is = ap (has_policy n) (sym (same_some a b e)) ∙ is
policy_stays n (c ∷ changes) a b e is =
    let by = first_step c changes a b e in
    policy_stays n changes by.between b by.others (ap (has_policy n) (stepped c a by.between by.first) ∙ policy_step n c a is)

and_right : (a b : Bool) → (a && b) ≡ true → b ≡ true
and_right true b e = e
and_right false b e = absurd cc

not_both : {b : Bool} → b ≡ true → b ≡ false → ⊥
not_both is isnt = let e : true ≡ false = sym is ∙ isnt in absurd cc

-- it leads on from contents of which something said a version, and from others to such of which nothing did, with no policy
one_of_bases : (c : Change) (changes : List Change) (a b with_version : Contents) → after_changes changes (with_change c a) ≡ Some b
    → b.versioned ≡ false → ((n : ℕ) → has_policy n b ≡ false) → with_version.versioned ≡ true → is_allowed c with_version ≡ true
    → ((n : ℕ) → deltas_by n c ≡ 0) → IsOfBases c
one_of_bases (change.Meta numbers) changes a b with_version lead plain none versioned may deltas = tt
one_of_bases (change.Policy number text) changes a b with_version lead plain none versioned may deltas =
    not_both
    (policy_stays number changes (with_change (change.Policy number text) a) b lead (ap is_some (get_inserted a.policies number text)))
    (none number)
one_of_bases (change.Document number written) changes a b with_version lead plain none versioned may deltas = by_version written.version refl
  where
    by_version : (version : Option ℕ) → written.version ≡ version → ⊥
    by_version (Some version) is =
        not_both
        (versioned_stays changes (with_change (change.Document number written) a) b lead
        (ap (λ (said : Option ℕ). is_some said || a.versioned) is))
        plain
    by_version None is =
        let room : (has_room number with_version && follows written.version with_version.versioned) ≡ true =
        and_right (is_given written.policy with_version) (has_room number with_version && follows written.version with_version.versioned) may in
        let follow : follows written.version with_version.versioned ≡ true =
        and_right (has_room number with_version) (follows written.version with_version.versioned) room in
        not_both follow (ap (follows written.version) versioned ∙ ap (λ v. follows v true) is)
one_of_bases (change.Gone number) changes a b with_version lead plain none versioned may deltas = tt
one_of_bases (change.Base page payload) changes a b with_version lead plain none versioned may deltas = tt
one_of_bases (change.Delta page payload) changes a b with_version lead plain none versioned may deltas =
    let one : (if page == page then 1 else 0) ≡ 1 = ap (λ (same : Bool). if same then 1 else 0) (eq-eqb page page refl) in
    let none : 1 ≡ 0 = sym one ∙ deltas page in
    absurd (omega (arith, none))

all_of_bases : (parts : List PartValue) (changes : List Change) → changes_said parts ≡ Some changes → (a b with_version other : Contents)
    → after_changes changes a ≡ Some b → after_changes changes with_version ≡ Some other
    → b.versioned ≡ false → ((n : ℕ) → has_policy n b ≡ false) → with_version.versioned ≡ true → ((n : ℕ) → deltas_of n parts ≡ 0)
    → AllByRecursion IsOfBases changes
all_of_bases [] changes said a b with_version other lead leads plain none versioned deltas =
    subst (AllByRecursion IsOfBases) (same_some [] changes said) tt
all_of_bases (part ∷ parts) changes said a b with_version other lead leads plain none versioned deltas =
    let by = says_first part parts changes said in
    let c = by.first in
    let step = first_step c by.behind a b (sym (ap (λ (all : List Change). after_changes all a) by.whole) ∙ lead) in
    let also = first_step c by.behind with_version other (sym (ap (λ (all : List Change). after_changes all with_version) by.whole) ∙ leads) in
    let counts : (n : ℕ) → deltas_by n c + deltas_of n parts ≡ 0 = λ n. sym (deltas_first n part c by.says parts) ∙ deltas n in
    subst (AllByRecursion IsOfBases) (sym by.whole) (
      one_of_bases c by.behind a b with_version
          (subst (λ (x : Contents). after_changes by.behind x ≡ Some b) (stepped c a step.between step.first) step.others)
          plain none versioned (allowed c with_version also.between also.first) (λ n. omega (arith, counts n)),
      all_of_bases parts by.behind by.are step.between b also.between other step.others also.others plain none
          (ap (λ (x : Contents). x.versioned) (stepped c with_version also.between also.first) ∙ versioned_step c with_version versioned)
          (λ n. omega (arith, counts n)),
    )

-- ---- a base that is the only one of its page is the one that the page has then

abbrev base_of : ℕ → Contents → Option (List ℕ)
base_of n contents = (term_page n contents.terms).base

-- none of the bases is of the page
none_first : (n : ℕ) (c : Change) (payloads : List (List ℕ)) → base_before n c payloads ≡ [] → payloads ≡ []
none_first n (change.Meta numbers) payloads e = e
none_first n (change.Policy number text) payloads e = e
none_first n (change.Document number written) payloads e = e
none_first n (change.Gone number) payloads e = e
none_first n (change.Base page payload) payloads e = by_test (page == n) e
  where
    by_test : (test : Bool) → put_in test payload payloads ≡ [] → payloads ≡ []
    by_test true e = absurd cc
    by_test false e = e
none_first n (change.Delta page payload) payloads e = e

other_page : (n page : ℕ) (payload : List ℕ) (payloads : List (List ℕ)) → put_in (page == n) payload payloads ≡ [] → n ≢ page
other_page n page payload payloads e same =
    let e : put_in true payload payloads ≡ [] = ap (λ b. put_in b payload payloads) (sym (eq-eqb page n (sym same))) ∙ e in
    absurd cc

base_step : (n : ℕ) (c : Change) (a : Contents) (payloads : List (List ℕ)) → IsOfBases c → is_allowed c a ≡ true
    → base_before n c payloads ≡ [] → base_of n (with_change c a) ≡ base_of n a
base_step n (change.Meta numbers) a payloads of may none = refl
base_step n (change.Policy number text) a payloads of may none = absurd of
base_step n (change.Document number written) a payloads of may none = absurd of
base_step n (change.Gone number) a payloads of may none = refl
base_step n (change.Base page payload) a payloads of may none =
    ap (λ (p : TermPage). p.base)
    (put_other page (with_base payload) a.terms n (base_place page payload a.terms may) (other_page n page payload payloads none))
base_step n (change.Delta page payload) a payloads of may none = absurd of

base_stays : (n : ℕ) (parts : List PartValue) (changes : List Change) → changes_said parts ≡ Some changes → AllByRecursion IsOfBases changes
    → (a b : Contents) → after_changes changes a ≡ Some b → bases_put n parts ≡ [] → base_of n b ≡ base_of n a
base_stays n [] changes said of a b lead none =
    let whole : [] ≡ changes = same_some [] changes said in
    ap (base_of n) (sym (same_some a b (ap (λ (all : List Change). after_changes all a) whole ∙ lead)))
base_stays n (part ∷ parts) changes said of a b lead none =
    let by = says_first part parts changes said in
    let c = by.first in
    let step = first_step c by.behind a b (sym (ap (λ (all : List Change). after_changes all a) by.whole) ∙ lead) in
    let all = subst (AllByRecursion IsOfBases) by.whole of in
    let first : base_before n c (bases_put n parts) ≡ [] = sym (bases_first n part c by.says parts) ∙ none in
    base_stays n parts by.behind by.are all.1 step.between b step.others (none_first n c (bases_put n parts) first)
    ∙ ap (base_of n) (stepped c a step.between step.first)
    ∙ base_step n c a (bases_put n parts) all.0 (allowed c a step.between step.first) first

-- there are no more of those behind a change
fewer_behind : (n : ℕ) (c : Change) (payloads : List (List ℕ)) → length payloads ≤ length (base_before n c payloads)
fewer_behind n (change.Meta numbers) payloads = omega arith
fewer_behind n (change.Policy number text) payloads = omega arith
fewer_behind n (change.Document number written) payloads = omega arith
fewer_behind n (change.Gone number) payloads = omega arith
fewer_behind n (change.Base page payload) payloads = by_test (page == n)
  where
    by_test : (test : Bool) → length payloads ≤ length (put_in test payload payloads)
    by_test true = omega arith
    by_test false = omega arith
fewer_behind n (change.Delta page payload) payloads = omega arith

empty_of : {A : Type 0} (xs : List A) → length xs ≡ 0 → xs ≡ []
empty_of [] e = refl
empty_of (x ∷ xs) e = absurd (omega (arith, e))

-- where each page has one at most, and each base that a page has then is in its grammar, what is put can be read
all_readable : (parts : List PartValue) (changes : List Change) → changes_said parts ≡ Some changes → AllByRecursion IsOfBases changes
    → (a b : Contents) → after_changes changes a ≡ Some b → ((n : ℕ) → length (bases_put n parts) ≤ 1)
    → ((n : ℕ) (payload : List ℕ) → base_of n b ≡ Some payload → IsBasePayload payload)
    → AllByRecursion (IsReadable newest) changes
all_readable [] changes said of a b lead once reads = subst (AllByRecursion (IsReadable newest)) (same_some [] changes said) tt
all_readable (part ∷ parts) changes said of a b lead once reads =
    let by = says_first part parts changes said in
    let c = by.first in
    let step = first_step c by.behind a b (sym (ap (λ (all : List Change). after_changes all a) by.whole) ∙ lead) in
    let all = subst (AllByRecursion IsOfBases) by.whole of in
    let once_first : (n : ℕ) → length (base_before n c (bases_put n parts)) ≤ 1 =
    λ n. subst (λ (payloads : List (List ℕ)). length payloads ≤ 1) (bases_first n part c by.says parts) (once n) in
    subst (AllByRecursion (IsReadable newest)) (sym by.whole) (
      one c all.0 (allowed c a step.between step.first) once_first (λ n none.
          base_stays n parts by.behind by.are all.1 step.between b step.others none
          ∙ ap (base_of n) (stepped c a step.between step.first)),
      all_readable parts by.behind by.are all.1 step.between b step.others
          (λ n. omega (arith, once_first n, fewer_behind n c (bases_put n parts))) reads,
    )
  where
    one : (c : Change) → IsOfBases c → is_allowed c a ≡ true → ((n : ℕ) → length (base_before n c (bases_put n parts)) ≤ 1)
        → ((n : ℕ) → bases_put n parts ≡ [] → base_of n b ≡ base_of n (with_change c a)) → IsReadable newest c
    one (change.Meta numbers) of may once stays = tt
    one (change.Policy number text) of may once stays = absurd of
    one (change.Document number written) of may once stays = absurd of
    one (change.Gone number) of may once stays = tt
    one (change.Base page payload) of may once stays =
        let here : length (put_in true payload (bases_put page parts)) ≤ 1 =
        subst (λ (test : Bool). length (put_in test payload (bases_put page parts)) ≤ 1) (eq-eqb page page refl) (once page) in
        reads page payload
        (stays page (empty_of (bases_put page parts) (omega (arith, here)))
        ∙ ap (λ (p : TermPage). p.base) (put_there page (with_base payload) a.terms (base_place page payload a.terms may)))
    one (change.Delta page payload) of may once stays = absurd of

-- ---- other term pages

-- a table agrees whatever the term pages
module _ (honest : Bool) (table : Table) (contents : Contents) (pages : List TermPage) (agrees : TableAgrees honest table contents) where
  abbrev with_pages : Contents
  with_pages = record contents { terms = pages }

  taken_too : (n : ℕ) → IsTaken n with_pages → IsTaken n contents
  taken_too n (inl is) = inl is
  taken_too n (inr used) = let used : IsUsed n with_pages = used in
      inr (record { number = used.number; document = used.document; held = used.held; indexed_by = used.indexed_by })

  agrees_beside : TableAgrees honest table with_pages
  agrees_beside = record {
    now = agrees.now;
    given = agrees.given;
    known = λ n taken. agrees.known n (taken_too n taken);
    policies = agrees.policies;
    apart = agrees.apart;
    only_given = agrees.only_given;
    texts = agrees.texts;
    counts = agrees.counts;
    moved = agrees.moved;
    few = agrees.few;
  }

-- ---- the plan

module _ (honest : Bool) (asked merged : ℕ) (parts : List PartValue) (before : Contents)
    (plan : IsMergePlan honest asked merged [] parts before.terms) where
  abbrev after : Contents
  after = record before { terms = plan.after }

  -- where the parts lead
  plan_leads : after_parts parts before ≡ Some after
  plan_leads = ap (λ (all : List PartValue). after_parts all before) plan.added ∙ plan.lead.lead before refl

  pub plan_said : AreSaid parts before after
  plan_said = said_of parts before after plan_leads

  pub held_after : IsTrue honest → (container : Container) → ContentsHoldAll before container → ContentsHoldAll after container
  held_after trusted container hold = record {
    documents = held_beside before plan.after container hold.documents;
    pairs = record { set = hold.pairs.set; is = plan.holds trusted hold.pairs.set hold.pairs.is; exact = hold.pairs.exact };
  }

  module _ (new : Contents) (lead : after_parts parts before ≡ Some new) where
    made : new ≡ after
    made = same_some new after (sym lead ∙ plan_leads)

    pub held_made : IsTrue honest → (container : Container) → ContentsHoldAll before container → ContentsHoldAll new container
    held_made trusted container hold =
        subst (λ (contents : Contents). ContentsHoldAll contents container) (sym made) (held_after trusted container hold)

    pub table_made : (table : Table) → TableAgrees honest table before → TableAgrees honest table new
    table_made table agrees = subst (TableAgrees honest table) (sym made) (agrees_beside honest table before plan.after agrees)

  -- ---- that what it puts can be read

  module _ (trusted : IsTrue honest) (set : PairSet) (index : IsIndex before.terms set) where
    due : (had has : Bool) → bases_due had has ≤ 1
    due true true = omega arith
    due true false = omega arith
    due false true = omega arith
    due false false = omega arith

    once : (n : ℕ) → length (bases_put n plan.parts) ≤ 1
    once n =
        ⊎_elim
        (λ (there : n < length before.terms).
        omega (arith, plan.each n there, due (has_deltas (term_page n before.terms)) (has_deltas (term_page n plan.after))))
        (λ (later : length before.terms ≤ n).
        ⊎_elim
        (λ (new : n < length plan.after). omega (arith, plan.new_once n later new))
        (λ (beyond : length plan.after ≤ n). omega (arith, ap (λ (xs : List (List ℕ)). length xs) (plan.none_beyond n beyond)))
        (cases_lt n (length plan.after)))
        (cases_lt n (length before.terms))

    base_read : (n : ℕ) (payload : List ℕ) → (term_page n plan.after).base ≡ Some payload → IsBasePayload payload
    base_read n payload base =
        ⊎_elim
        (λ (there : n < length plan.after).
        let has = (plan.holds trusted set index).have n there in
        let is : IsBase payload has.base = subst (λ (found : Option (List ℕ)). AreOfBase found has.base) base has.of_base in
        record { low = is.low; postings = is.postings; is = is.is })
        (λ (beyond : length plan.after ≤ n).
        absurd (some_or_none payload (sym (ap (λ (p : TermPage). p.base) (get_or_past plan.after n no_term_page beyond)) ∙ base)))
        (cases_lt n (length plan.after))

    abbrev start : Contents
    start = record no_contents { terms = before.terms }

    abbrev with_version : Contents
    with_version = record start { versioned = true }

    pub plan_readable : (changes : List Change) → changes_said parts ≡ Some changes → AllByRecursion (IsReadable newest) changes
    plan_readable changes says =
        let said : changes_said plan.parts ≡ Some changes = ap changes_said (sym plan.added) ∙ says in
        let lead : after_changes changes start ≡ Some (record start { terms = plan.after }) =
        sym (said_leads plan.parts changes start said) ∙ plan.lead.lead start refl in
        let other : after_changes changes with_version ≡ Some (record with_version { terms = plan.after }) =
        sym (said_leads plan.parts changes with_version said) ∙ plan.lead.lead with_version refl in
        all_readable plan.parts changes said
        (all_of_bases plan.parts changes said start (record start { terms = plan.after }) with_version (record with_version { terms = plan.after })
        lead other refl (λ n. ap is_some (finite.get-empty _ n)) refl plan.no_deltas)
        start (record start { terms = plan.after }) lead once base_read

-- ---- a call that only planned

told_damage : {C : Type 0} (store : Store C) (why : StoreFault) → TellsPart store why → TellsDamage store why
told_damage store store_fault.Disk told = tt
told_damage store (store_fault.Damaged extent at) told = inr told
told_damage store (store_fault.Newer version) told = told
told_damage store store_fault.Memory told = tt

-- the store holds the container as before
pub holds_on : {C : Type 0} (old new : Store C) (ids : List (List ℕ × ℕ)) (before : Container) → HoldsAll old ids before
    → ContentsHoldAll (store_contents new) before → HoldsAll new ids before
holds_on old new ids before holds contents = record { contents = contents; recent = holds.recent }

module _ {C : Type 0} (pages : C → CachedPages) (old new : Store C) (start mid : History) (before : Container) (agrees : Agrees pages old start)
    (ids : List (List ℕ × ℕ)) (holds : HoldsAll old ids before) (idles : Idles start mid) (same : store_contents new ≡ store_contents old) where
  still_holds : HoldsAll new ids before
  still_holds = holds_on old new ids before holds (subst (λ (contents : Contents). ContentsHoldAll contents before) (sym same) holds.contents)

  pub tells_none : TellsWrite before (Ok before) (Ok tt) new ids start mid
  tells_none =
      let kept = kept_by_look pages old start mid before agrees holds.contents idles new ids still_holds in
      (before, refl, kept.0, kept.1)

  pub tells_unplanned : (why : StoreFault) → TellsPart old why → TellsWrite before (Ok before) (Err (fault.Store why)) new ids start mid
  tells_unplanned why told =
      tells_failed pages old start mid before agrees holds.contents idles (Ok before) new ids why still_holds (told_damage old why told)

module _ {C : Type 0} (pages : C → CachedPages) (honest : Bool) (old new : Store C) (start later : History) (first last : ℕ)
    (reserves : Reserves pages honest old new start later first last) (others : KeepsTaken (store_slots old) (store_slots new)) where
  readable_still : IsTrue honest → store_failed old ≡ false → (set : PairSet) → IsIndex (store_contents old).terms set
      → Rests start SaysReadable → Stays start later SaysReadable
  readable_still trusted works set index rests = idles_stay start later SaysReadable rests (reserves.lists trusted)

  pub planned_left : (result : Result ℕ StoreFault) → FailsBy result (store_failed old) (store_failed new)
      → (store_failed old ≡ false → HasDiskCause result first last) → (IsTrue honest → IfErr result (TellsPart old))
      → WriteLeaves pages honest (as_write (done_of result)) old new start later first last
  planned_left (Ok merged) fails cause told =
      left_behind pages honest old new start later first last (Ok tt) tt readable_still (λ trusted. tt) (λ trusted. tt) fails reserves.agrees
      reserves.same.taken others (ap log_area reserves.same.logged)
      (λ works. record { never_falls = reserves.never_falls; failed = λ none. absurd none; uncounted = (cause works).uncounted })
      reserves.never_falls
  planned_left (Err why) fails cause told =
      left_behind pages honest old new start later first last (Err why) reserves.same.contents readable_still
      (λ trusted. idles_of start later (reserves.lists trusted) why) told fails reserves.agrees reserves.same.taken others
      (ap log_area reserves.same.logged)
      (λ works. record { never_falls = reserves.never_falls; failed = (cause works).failed; uncounted = (cause works).uncounted })
      reserves.never_falls

-- ---- one that committed the batch, or failed to

-- the parts may follow what the store has then
pub merged_within : {honest : Bool} (asked merged : ℕ) (none parts : List PartValue) (before now : Contents)
    → IsMergePlan honest asked merged none parts before.terms → none ≡ [] → now ≡ before → AreAllowed parts now
merged_within {honest} asked merged none parts before now plan empty same =
    let own = subst (λ (old : List PartValue). IsMergePlan honest asked merged old parts before.terms) empty plan in
    subst (AreAllowed parts) (sym same) (record before { terms = own.after }, plan_leads honest asked merged parts before own)

module _ {C : Type 0} (pages : C → CachedPages) (honest : Bool) (trusted : IsTrue honest) (asked merged : ℕ) (parts : List PartValue)
    (old now : Store C) (plan : IsMergePlan honest asked merged [] parts (store_contents old).terms) (same : store_contents now ≡ store_contents old)
    (start mid end : History) (idles : Idles start mid) (may : MayLeave start.unsynced start.reads) (agrees : Agrees pages old start)
    (commit : AnyMoment mid end parts (store_contents now)) where
  abbrev were : Contents
  were = store_contents old

  abbrev are : Contents
  are = record were { terms = plan.after }

  of : SaysOf old start
  of = agrees_says pages old start agrees

  said : AreSaid parts were are
  said = plan_said honest asked merged parts were plan

  abbrev Was : Image → Type 0
  Was image = Says newest of.version of.told were image

  abbrev Is : Image → Type 0
  Is image = SaysMore of.version of.told said.changes are image

  turns : Turns start end Was Is
  turns =
      let there = subst (λ (c : Contents). Says newest of.version of.told c mid.reads) (sym same)
      (subst Was (sym idles.reads) (of.says.each start.reads may)) in
      stays_join start mid end (λ image. Was image ⊎ Is image) (stays_turn start mid Was Is (idles_stay start mid Was of.says idles))
      (subst (λ (c : Contents). Turns mid end (Says newest of.version of.told c) Is) same
      (commit of.version of.told said.changes are there said.said (ap (after_changes said.changes) same ∙ said.lead)))

  pub readable_made : (set : PairSet) → IsIndex were.terms set → Rests start SaysReadable → Stays start end SaysReadable
  readable_made set index rests =
      readable_by start end of.version of.told were are said.changes
      (plan_readable honest asked merged parts were plan trusted set index said.changes said.said) rests may (of.says.each start.reads may) turns

  module _ (before : Container) (ids : List (List ℕ × ℕ)) (holds : HoldsAll old ids before) (new : Store C) where
    kept : Turns start end (HasAll before) (HasAll before)
    kept =
        turned old before start of holds.contents end before said.changes are
        (held_after honest asked merged parts were plan trusted before holds.contents) turns

    pub tells_made : after_parts parts (store_contents now) ≡ Some (store_contents new) → TellsWrite before (Ok before) (Ok tt) new ids start end
    tells_made lead =
        let leads : after_parts parts were ≡ Some (store_contents new) = ap (after_parts parts) (sym same) ∙ lead in
        let hold = held_made honest asked merged parts were plan (store_contents new) leads trusted before holds.contents in
        (before, refl, holds_on old new ids before holds hold, kept)

    pub tells_unmade : (why : StoreFault) → store_contents new ≡ store_contents now → IsBrief why
        → TellsWrite before (Ok before) (Err (fault.Store why)) new ids start end
    tells_unmade store_fault.Disk unchanged brief = kept
    tells_unmade (store_fault.Damaged extent at) unchanged brief = absurd brief
    tells_unmade (store_fault.Newer version) unchanged brief = absurd brief
    tells_unmade store_fault.Memory unchanged brief =
        let hold = subst (λ (contents : Contents). ContentsHoldAll contents before) (sym (unchanged ∙ same)) holds.contents in
        (holds_on old new ids before holds hold, kept)
