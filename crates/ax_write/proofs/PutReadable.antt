-- What a plan puts can be read, where the pages hold a set: a delta carries changes, and a base is that of its page
-- afterwards, which has pairs.
use Rattle.std.proofs.Common.{◌≡◌, ◌⊎◌, inl, inr, ⊎_elim, ℕ, ◌<◌, ◌≤◌, ◌==◌, Bool, true, false, List, [], ◌∷◌, length, arith}
use Rattle.std.proofs.Common.{Option, Some, None, refl, sym, ap, subst, ◌∙◌}
use Rattle.std.specs.Prelude.{◌&&◌, if◌then◌else◌, IsTrue}
use Rattle.std.specs.List.{AllByRecursion}
use Rattle.std.proofs.lemmas.Bool.{cases_lt, eq-eqb, eqb-true, ltb-true}
use Rattle.std.proofs.lemmas.List.{get_or-set_same}
use Rattle.ax_area.proofs.OneTelling.{first_step, same_some, some_or_none}
use Rattle.ax_area.specs.Changes.{Change, Numbers, Written, change_by}
use Rattle.ax_area.specs.Changes as change
use Rattle.ax_area.specs.Contents.{Contents, after_change, after_changes, is_allowed, no_contents, with_change}
use Rattle.ax_area.specs.Kinds.{kind_in}
use Rattle.ax_area.specs.Leading.{LeadTo}
use Rattle.ax_area.specs.Parts.{change_said, changes_said}
use Rattle.ax_area_laws.proofs.Refusing.{no_kind}
use Rattle.ax_area_laws.proofs.Stepping.{kind_number}
use Rattle.ax_delta.specs.Changes.{term_changes_of}
use Rattle.ax_delta.specs.declared.change.Change.{Change as PairChange}
use Rattle.ax_frame.specs.Part.{PartValue}
use Rattle.ax_image.specs.Readable.{newest}
use Rattle.ax_image_grammar.specs.Payloads.{IsBasePayload, IsDeltaPayload, IsReadable}
use Rattle.ax_index.specs.Carried.{AreCarriedBy, AreDeltasOf, bases_put, deltas_put, is_base_kind, is_delta_kind}
use Rattle.ax_index.specs.Plans.{IsPlan}
use Rattle.ax_pages.proofs.TermLists.{base_place, put_other, put_there, set_other}
use Rattle.ax_pages.specs.AfterPart.{after_base, after_delta, is_base, is_delta, kind_of, with_base, with_delta}
use Rattle.ax_pages.specs.Contents.{TermPage, no_term_page, term_page}
use Rattle.ax_pages.specs.declared.numbers.TheConstants.{NEWEST_VERSION}
use Rattle.ax_pages.specs.declared.page.Kind.{Kind}
use Rattle.ax_pages.specs.declared.page.Kind.TheVariants as kind
use Rattle.ax_pairs.specs.Index.{IsIndex}
use Rattle.ax_pairs.specs.PagePairs.{AreOfBase, IsBase}
use Rattle.ax_pairs.specs.PairSets.{PairSet}
use Rattle.ax_write.proofs.PagesAlone.{IsBeside, are_beside, stepped}
use Rattle.ax_write.proofs.PartsSaid.{says_first, turns_pages}

-- ---- one of a list

abbrev IsAmong : {A : Type 0} → A → List A → Type 0
IsAmong x [] = ⊥
IsAmong x (y ∷ ys) = (x ≡ y) ⊎ IsAmong x ys

all_of : {A : Type 0} (P : A → Type 0) (xs : List A) → ((x : A) → IsAmong x xs → P x) → AllByRecursion P xs
all_of P [] each = tt
all_of P (x ∷ xs) each = (each x (inl refl), all_of P xs (λ y among. each y (inr among)))

none_among : {A : Type 0} (x : A) (xs : List A) → xs ≡ [] → IsAmong x xs → ⊥
none_among x xs none among = subst (IsAmong x) none among

-- the only one
one_among : {A : Type 0} (x : A) (xs : List A) → length xs ≡ 1 → IsAmong x xs → xs ≡ x ∷ []
one_among x [] one among = absurd among
one_among x (y ∷ []) one (inl same) = ap (λ z. z ∷ []) (sym same)
one_among x (y ∷ []) one (inr other) = absurd other
one_among x (y ∷ z ∷ ys) one among = absurd (omega (arith, one))

-- ---- what a part says, by its kind

abbrev said_by_number : PartValue → ℕ → Option Change
said_by_number part n = change_by (kind_in NEWEST_VERSION n) part []

let_through : (test : Bool) (d c : Change) → (if test then Some d else None) ≡ Some c → d ≡ c
let_through true d c e = same_some d c e
let_through false d c e = absurd (some_or_none c e)

-- what holds of the kinds, each with the change that it says, holds of a part and what it says
by_kinds : {X : Type 0} (part : PartValue) (c : Change) → change_said part ≡ Some c → (of_kind : Option Kind → X) (of_change : Change → X)
    → ((numbers : Numbers) → of_kind (Some kind.Meta) ≡ of_change (change.Meta numbers))
    → of_kind (Some kind.Policy) ≡ of_change (change.Policy part.key part.payload)
    → ((written : Written) → of_kind (Some kind.Document) ≡ of_change (change.Document part.key written))
    → of_kind (Some kind.Gone) ≡ of_change (change.Gone part.key)
    → of_kind (Some kind.Base) ≡ of_change (change.Base part.key part.payload)
    → of_kind (Some kind.Delta) ≡ of_change (change.Delta part.key part.payload)
    → of_kind (kind_of part.kind) ≡ of_change c
by_kinds {X} part c says of_kind of_change meta policy document gone base delta = by_found (kind_of part.kind) refl
  where
    as_number : (n : ℕ) → part.kind ≡ n → said_by_number part n ≡ Some c
    as_number n e = sym (ap (said_by_number part) e) ∙ says

    by_found : (found : Option Kind) → kind_of part.kind ≡ found → of_kind (kind_of part.kind) ≡ of_change c
    by_found None is =
        absurd (some_or_none c (sym (ap (λ k. change_by k part []) (no_kind part.kind is)) ∙ says))
    by_found (Some kind.Meta) is =
        ap of_kind is ∙ meta _ ∙ ap of_change (let_through _ _ c (as_number 1 (kind_number part.kind kind.Meta is)))
    by_found (Some kind.Policy) is =
        ap of_kind is ∙ policy ∙ ap of_change (let_through _ _ c (as_number 2 (kind_number part.kind kind.Policy is)))
    by_found (Some kind.Document) is =
        ap of_kind is ∙ document _ ∙ ap of_change (let_through _ _ c (as_number 3 (kind_number part.kind kind.Document is)))
    by_found (Some kind.Gone) is =
        ap of_kind is ∙ gone ∙ ap of_change (let_through _ _ c (as_number 4 (kind_number part.kind kind.Gone is)))
    by_found (Some kind.Base) is =
        ap of_kind is ∙ base ∙ ap of_change (let_through _ _ c (as_number 5 (kind_number part.kind kind.Base is)))
    by_found (Some kind.Delta) is =
        ap of_kind is ∙ delta ∙ ap of_change (same_some _ c (as_number 6 (kind_number part.kind kind.Delta is)))

-- ---- the payloads that are put, told of changes

abbrev put_in : Bool → List ℕ → List (List ℕ) → List (List ℕ)
put_in test payload payloads = if test then payload ∷ payloads else payloads

abbrev base_before : ℕ → Change → List (List ℕ) → List (List ℕ)
base_before n (change.Base page payload) payloads = put_in (page == n) payload payloads
base_before n other payloads = payloads

abbrev delta_before : ℕ → Change → List (List ℕ) → List (List ℕ)
delta_before n (change.Delta page payload) payloads = put_in (page == n) payload payloads
delta_before n other payloads = payloads

abbrev bases_in : ℕ → List Change → List (List ℕ)
bases_in n [] = []
bases_in n (c ∷ changes) = base_before n c (bases_in n changes)

abbrev deltas_in : ℕ → List Change → List (List ℕ)
deltas_in n [] = []
deltas_in n (c ∷ changes) = delta_before n c (deltas_in n changes)

bases_said : (n : ℕ) (parts : List PartValue) (changes : List Change) → changes_said parts ≡ Some changes
    → bases_put n parts ≡ bases_in n changes
bases_said n [] changes said = ap (bases_in n) (same_some [] changes said)
bases_said n (part ∷ parts) changes said =
    let by = says_first part parts changes said in
    by_kinds part by.first by.says
    (λ (k : Option Kind). put_in (is_base_kind k && part.key == n) part.payload (bases_put n parts))
    (λ c. base_before n c (bases_put n parts)) (λ numbers. refl) refl (λ written. refl) refl refl refl
    ∙ ap (base_before n by.first) (bases_said n parts by.behind by.are)
    ∙ ap (bases_in n) (sym by.whole)

deltas_said : (n : ℕ) (parts : List PartValue) (changes : List Change) → changes_said parts ≡ Some changes
    → deltas_put n parts ≡ deltas_in n changes
deltas_said n [] changes said = ap (deltas_in n) (same_some [] changes said)
deltas_said n (part ∷ parts) changes said =
    let by = says_first part parts changes said in
    by_kinds part by.first by.says
    (λ (k : Option Kind). put_in (is_delta_kind k && part.key == n) part.payload (deltas_put n parts))
    (λ c. delta_before n c (deltas_put n parts)) (λ numbers. refl) refl (λ written. refl) refl refl refl
    ∙ ap (delta_before n by.first) (deltas_said n parts by.behind by.are)
    ∙ ap (deltas_in n) (sym by.whole)

first_put : (page : ℕ) (payload : List ℕ) (payloads : List (List ℕ)) → IsAmong payload (put_in (page == page) payload payloads)
first_put page payload payloads =
    subst (λ (b : Bool). IsAmong payload (put_in b payload payloads)) (sym (eq-eqb page page refl)) (inl refl)

later_put : (test : Bool) (first payload : List ℕ) (payloads : List (List ℕ)) → IsAmong payload payloads
    → IsAmong payload (put_in test first payloads)
later_put true first payload payloads among = inr among
later_put false first payload payloads among = among

base_behind : (n : ℕ) (c : Change) (payload : List ℕ) (payloads : List (List ℕ)) → IsAmong payload payloads
    → IsAmong payload (base_before n c payloads)
base_behind n (change.Meta numbers) payload payloads among = among
base_behind n (change.Policy number text) payload payloads among = among
base_behind n (change.Document number written) payload payloads among = among
base_behind n (change.Gone number) payload payloads among = among
base_behind n (change.Base page other) payload payloads among = later_put (page == n) other payload payloads among
base_behind n (change.Delta page other) payload payloads among = among

delta_behind : (n : ℕ) (c : Change) (payload : List ℕ) (payloads : List (List ℕ)) → IsAmong payload payloads
    → IsAmong payload (delta_before n c payloads)
delta_behind n (change.Meta numbers) payload payloads among = among
delta_behind n (change.Policy number text) payload payloads among = among
delta_behind n (change.Document number written) payload payloads among = among
delta_behind n (change.Gone number) payload payloads among = among
delta_behind n (change.Base page other) payload payloads among = among
delta_behind n (change.Delta page other) payload payloads among = later_put (page == n) other payload payloads among

base_among : (changes : List Change) (page : ℕ) (payload : List ℕ) → IsAmong (change.Base page payload) changes
    → IsAmong payload (bases_in page changes)
base_among [] page payload among = absurd among
base_among (c ∷ changes) page payload (inl same) =
    subst (λ (first : Change). IsAmong payload (base_before page first (bases_in page changes))) same
    (first_put page payload (bases_in page changes))
base_among (c ∷ changes) page payload (inr among) =
    base_behind page c payload (bases_in page changes) (base_among changes page payload among)

delta_among : (changes : List Change) (page : ℕ) (payload : List ℕ) → IsAmong (change.Delta page payload) changes
    → IsAmong payload (deltas_in page changes)
delta_among [] page payload among = absurd among
delta_among (c ∷ changes) page payload (inl same) =
    subst (λ (first : Change). IsAmong payload (delta_before page first (deltas_in page changes))) same
    (first_put page payload (deltas_in page changes))
delta_among (c ∷ changes) page payload (inr among) =
    delta_behind page c payload (deltas_in page changes) (delta_among changes page payload among)

-- ---- deltas

carried : (changes : List PairChange) (payloads : List (List ℕ)) (payload : List ℕ) → AreDeltasOf changes payloads
    → IsAmong payload payloads → IsDeltaPayload payload
carried changes [] payload are among = absurd among
carried changes (first ∷ payloads) payload (here, rest, whole, is, others) (inl same) =
    subst IsDeltaPayload (sym same) (record { changes = term_changes_of here; is = is })
carried changes (first ∷ payloads) payload (here, rest, whole, is, others) (inr among) =
    carried rest payloads payload others among

-- ---- bases

-- the last of some payloads, or what was before
abbrev last_base : List (List ℕ) → Option (List ℕ) → Option (List ℕ)
last_base [] before = before
last_base (payload ∷ payloads) before = last_base payloads (Some payload)

abbrev base_of : ℕ → List TermPage → Option (List ℕ)
base_of n pages = (term_page n pages).base

-- the base of a page after a change
abbrev base_by : ℕ → Change → Option (List ℕ) → Option (List ℕ)
base_by n (change.Base page payload) before = if page == n then Some payload else before
base_by n other before = before

put_page_base : (n page : ℕ) (payload : List ℕ) (pages : List TermPage) → is_base page payload pages ≡ true
    → base_of n (after_base page payload pages) ≡ (if page == n then Some payload else base_of n pages)
put_page_base n page payload pages is =
    elim (page == n) as (λ b. (page == n) ≡ b → base_of n (after_base page payload pages) ≡ (if b then Some payload else base_of n pages)) [
      | true ↦ λ e. ap (λ m. base_of m (after_base page payload pages)) (sym (eqb-true page n e))
          ∙ ap (λ (p : TermPage). p.base) (put_there page (with_base payload) pages (base_place page payload pages is))
      | false ↦ λ e. ap (λ (p : TermPage). p.base)
          (put_other page (with_base payload) pages n (base_place page payload pages is) (λ same. not_same n page e same))
    ] refl
  where
    not_same : (n page : ℕ) → (page == n) ≡ false → n ≡ page → ⊥
    not_same n page e same = let is : (page == n) ≡ true = eq-eqb page n (sym same) in absurd cc

delta_keeps_base : (n page : ℕ) (payload : List ℕ) (pages : List TermPage) → is_delta page pages ≡ true
    → base_of n (after_delta page payload pages) ≡ base_of n pages
delta_keeps_base n page payload pages is =
    elim (page == n) as (λ b. (page == n) ≡ b → base_of n (after_delta page payload pages) ≡ base_of n pages) [
      | true ↦ λ e.
          let same : page ≡ n = eqb-true page n e in
          ap (λ m. base_of m (after_delta page payload pages)) (sym same)
          ∙ ap (λ (p : TermPage). p.base)
          (get_or-set_same pages page (with_delta payload (term_page page pages)) no_term_page (ltb-true page (length pages) is))
          ∙ ap (λ m. base_of m pages) same
      | false ↦ λ e. ap (λ (p : TermPage). p.base)
          (set_other page (with_delta payload (term_page page pages)) pages n (λ same. not_same n page e same))
    ] refl
  where
    not_same : (n page : ℕ) → (page == n) ≡ false → n ≡ page → ⊥
    not_same n page e same = let is : (page == n) ≡ true = eq-eqb page n (sym same) in absurd cc

held : (test : Bool) (x y : Contents) → (if test then Some x else None) ≡ Some y → test ≡ true
held true x y e = refl
held false x y e = absurd (some_or_none y e)

base_step : (n : ℕ) (c : Change) (a b : Contents) → after_change c a ≡ Some b → base_of n b.terms ≡ base_by n c (base_of n a.terms)
base_step n c a b e = ap (λ (x : Contents). base_of n x.terms) (stepped c a b e) ∙ by_change c (held (is_allowed c a) (with_change c a) b e)
  where
    by_change : (c : Change) → is_allowed c a ≡ true → base_of n (with_change c a).terms ≡ base_by n c (base_of n a.terms)
    by_change (change.Meta numbers) is = refl
    by_change (change.Policy number text) is = refl
    by_change (change.Document number written) is = refl
    by_change (change.Gone number) is = refl
    by_change (change.Base page payload) is = put_page_base n page payload a.terms is
    by_change (change.Delta page payload) is = delta_keeps_base n page payload a.terms is

last_of : (n : ℕ) (c : Change) (payloads : List (List ℕ)) (before : Option (List ℕ))
    → last_base payloads (base_by n c before) ≡ last_base (base_before n c payloads) before
last_of n (change.Meta numbers) payloads before = refl
last_of n (change.Policy number text) payloads before = refl
last_of n (change.Document number written) payloads before = refl
last_of n (change.Gone number) payloads before = refl
last_of n (change.Base page payload) payloads before =
    elim (page == n) as (λ b. last_base payloads (if b then Some payload else before) ≡ last_base (put_in b payload payloads) before) [
      | true ↦ refl
      | false ↦ refl
    ]
last_of n (change.Delta page payload) payloads before = refl

base_after : (n : ℕ) (changes : List Change) (a b : Contents) → after_changes changes a ≡ Some b
    → base_of n b.terms ≡ last_base (bases_in n changes) (base_of n a.terms)
base_after n [] a b e = ap (λ (x : Contents). base_of n x.terms) (sym (same_some a b e))
base_after n (c ∷ changes) a b e =
    let by = first_step c changes a b e in
    base_after n changes by.between b by.others
    ∙ ap (last_base (bases_in n changes)) (base_step n c a by.between by.first)
    ∙ last_of n c (bases_in n changes) (base_of n a.terms)

-- ---- the plan

module _ (honest : Bool) (pairs : List PairChange) (merged : ℕ) (old new : List PartValue) (before : List TermPage)
    (plan : IsPlan honest pairs merged old new before) (trusted : IsTrue honest) (set : PairSet) (index : IsIndex before set)
    (changes : List Change) (said : changes_said plan.parts ≡ Some changes) where
  turn : LeadTo changes before plan.after
  turn = turns_pages plan.parts changes before plan.after said plan.lead

  delta_readable : (page : ℕ) (payload : List ℕ) → IsAmong (change.Delta page payload) changes → IsDeltaPayload payload
  delta_readable page payload among =
      let put : IsAmong payload (deltas_put page plan.parts) =
      subst (IsAmong payload) (sym (deltas_said page plan.parts changes said)) (delta_among changes page payload among) in
      ⊎_elim
      (λ (there : page < length before).
      let settled = plan.each index.apart page there in
      ⊎_elim
      (λ (base : (0 < length settled.changes) × (length (bases_put page plan.parts) ≡ 1) × (deltas_put page plan.parts ≡ [])).
      absurd (none_among payload (deltas_put page plan.parts) base.2 put))
      (λ (deltas : (bases_put page plan.parts ≡ []) × AreCarriedBy settled.changes (deltas_put page plan.parts)).
      carried settled.changes (deltas_put page plan.parts) payload deltas.1.are put)
      settled.put)
      (λ (beyond : length before ≤ page).
      absurd (none_among payload (deltas_put page plan.parts) (plan.new_without page beyond) put))
      (cases_lt page (length before))

  -- the page of a base is there afterwards, and the base is the only one that was put for it
  base_there : (page : ℕ) (payload : List ℕ) → IsAmong payload (bases_put page plan.parts)
      → (page < length plan.after) × (length (bases_put page plan.parts) ≡ 1)
  base_there page payload put =
      ⊎_elim
      (λ (there : page < length plan.after). (there, only there))
      (λ (beyond : length plan.after ≤ page).
      absurd (none_among payload (bases_put page plan.parts) (plan.none_beyond page beyond) put))
      (cases_lt page (length plan.after))
    where
      only : page < length plan.after → length (bases_put page plan.parts) ≡ 1
      only there =
          ⊎_elim
          (λ (earlier : page < length before).
          let settled = plan.each index.apart page earlier in
          ⊎_elim
          (λ (base : (0 < length settled.changes) × (length (bases_put page plan.parts) ≡ 1) × (deltas_put page plan.parts ≡ [])). base.1)
          (λ (deltas : (bases_put page plan.parts ≡ []) × AreCarriedBy settled.changes (deltas_put page plan.parts)).
          absurd (none_among payload (bases_put page plan.parts) deltas.0 put))
          settled.put)
          (λ (later : length before ≤ page). plan.new_once page later there)
          (cases_lt page (length before))

  base_readable : (page : ℕ) (payload : List ℕ) → IsAmong (change.Base page payload) changes → IsBasePayload payload
  base_readable page payload among =
      let same : bases_put page plan.parts ≡ bases_in page changes = bases_said page plan.parts changes said in
      let put : IsAmong payload (bases_put page plan.parts) =
      subst (IsAmong payload) (sym same) (base_among changes page payload among) in
      let there = base_there page payload put in
      let one : bases_in page changes ≡ payload ∷ [] = sym same ∙ one_among payload (bases_put page plan.parts) there.1 put in
      let start : Contents = record no_contents { terms = before } in
      let base : base_of page plan.after ≡ Some payload =
      base_after page changes start (record start { terms = plan.after }) (turn.lead start refl)
      ∙ ap (λ payloads. last_base payloads (base_of page before)) one in
      let has = (plan.holds trusted set index).have page there.0 in
      let is : IsBase payload has.base = subst (λ (found : Option (List ℕ)). AreOfBase found has.base) base has.of_base in
      record { low = is.low; postings = is.postings; is = is.is }

  readable_one : (c : Change) → IsAmong c changes → IsBeside c → IsReadable newest c
  readable_one (change.Meta numbers) among beside = tt
  readable_one (change.Policy number text) among beside = absurd beside
  readable_one (change.Document number written) among beside = absurd beside
  readable_one (change.Gone number) among beside = tt
  readable_one (change.Base page payload) among beside = base_readable page payload among
  readable_one (change.Delta page payload) among beside = delta_readable page payload among

  beside_of : (some : List Change) (c : Change) → AllByRecursion IsBeside some → IsAmong c some → IsBeside c
  beside_of [] c all among = absurd among
  beside_of (first ∷ some) c all (inl same) = subst IsBeside (sym same) all.0
  beside_of (first ∷ some) c all (inr among) = beside_of some c all.1 among

  pub put_readable : AllByRecursion (IsReadable newest) changes
  put_readable =
      all_of (IsReadable newest) changes
      (λ c among. readable_one c among (beside_of changes c (are_beside changes before plan.after turn) among))
