-- What is held was told, and stands where it was told: one by one, with its place.
use Rattle.std.proofs.Common.{◌≡◌, ℕ, zero, suc, ◌+◌, ◌==◌, ◌&&◌, is_some, arith, Bool, true, false}
use Rattle.std.proofs.Common.{List, [], ◌∷◌, ◌++◌, map, Option, length, slice_get, get_or, refl}
use Rattle.std.proofs.Common.{sym, ap, subst, ◌∙◌, length-append}
use Rattle.std.specs.Prelude.{Some, None, if◌then◌else◌}
use Rattle.std.specs.Option.{option_map, option_to_list}
use Rattle.std.specs.List.{AllByRecursion, AllZip, Contains}
use Rattle.std.proofs.lemmas.Bool.{ne_eqb}
use Rattle.std.proofs.lemmas.List.{append_assoc, map-append, length-map}
use Rattle.std.proofs.lemmas.List.Elements.{Contains-append_right}
use Rattle.std.proofs.lemmas.Option.{slice_get-map}
use Rattle.ax_pages.specs.Contents.{TermPage, no_term_page, term_page, term_parts}
use Rattle.ax_pages.specs.AfterPart.{with_base, with_delta}
use Rattle.ax_pages.proofs.TermLists.{base_place}
use Rattle.ax_area.specs.declared.kind.Kind.{Kind}
use Rattle.ax_area.specs.Kinds.{kind_in}
use Rattle.ax_area.specs.declared.kind.Kind.TheVariants as kind
use Rattle.ax_area.specs.Items.{Item, item_parts, item_bytes}
use Rattle.ax_area.specs.Changes.{Change, Written, change_by}
use Rattle.ax_area.specs.Changes as change
use Rattle.ax_area.specs.Contents.{Contents, Stored, stored, no_contents, is_allowed, with_change}
use Rattle.ax_area.specs.Contents.{after_changes}
use Rattle.ax_area.specs.Places.{Place, PagePlaces, no_places, places_from, with_places}
use Rattle.ax_area.specs.Places.{places_after}
use Rattle.ax_area.specs.Told.{Told, changes_of, IsTold, AreTold, TellOn, Lead}
use Rattle.ax_area.proofs.OneTelling.{same_some, some_or_none, first_step}
use Rattle.ax_area.proofs.KeptSo.{made}
use Rattle.ax_area.proofs.Standing.{all_joined, kind_number, single_alone}
use Rattle.ax_image_grammar.specs.Met.{is_base_at}
use Rattle.ax_image_grammar.proofs.Matched.{AreMatched, none_matched, one_matched, less_matched}
use Rattle.ax_image_grammar.proofs.Matched.{zip_joined, AllNumbered, numbered_set, numbered_get}
use Rattle.ax_image_grammar.proofs.Matched.{numbered_put}

-- ---- what was told

-- one of what was told, an item at its own offset
pub record IsOneTold (version : ℕ) (told : List Told) (t : Told) : Type 0 where
  pub is_in : Contains told t
  pub is_told : IsTold version t.at t

each_told : (version at : ℕ) (told : List Told) → AreTold version at told
    → AllByRecursion (λ (t : Told). IsTold version t.at t) told
each_told version at [] are = tt
each_told version at (t ∷ told) are = (
  record { at_is = refl; item = are.0.item; says = are.0.says },
  each_told version (at + length (item_bytes t.item)) told are.1,
)

pub each_told_on : (version : ℕ) (frames : List (List ℕ)) (at : ℕ) (told : List Told)
    → TellOn version frames at told → AllByRecursion (λ (t : Told). IsTold version t.at t) told
each_told_on version [] at told tell =
    subst (AllByRecursion (λ (t : Told). IsTold version t.at t)) (sym tell) tt
each_told_on version (frame ∷ frames) at told (first, others, is, begins, more) =
    subst (AllByRecursion (λ (t : Told). IsTold version t.at t)) (sym is)
    (all_joined (λ (t : Told). IsTold version t.at t) first others
    (each_told version (at + 9) first begins.are)
    (each_told_on version frames (at + 9 + length frame) others more))

each_one : (version : ℕ) (front told : List Told)
    → AllByRecursion (λ (t : Told). IsTold version t.at t) told
    → AllByRecursion (IsOneTold version (front ++ told)) told
each_one version front [] all = tt
each_one version front (t ∷ told) all = (
  record {
    is_in = Contains-append_right front (t ∷ told) t (0, omega arith, refl);
    is_told = all.0;
  },
  subst (λ ts. AllByRecursion (IsOneTold version ts) told) (append_assoc front (t ∷ []) told)
      (each_one version (front ++ t ∷ []) told all.1),
)

-- ---- one part alone

-- but for documents, an item of several parts says nothing
abbrev pub IsAlone : Change → Item → Type 0
IsAlone (change.Meta numbers) item = Unit {0}
IsAlone (change.Policy number text) item = item.pieces ≡ []
IsAlone (change.Document number written) item = Unit {0}
IsAlone (change.Gone number) item = Unit {0}
IsAlone (change.Base page payload) item = item.pieces ≡ []
IsAlone (change.Delta page payload) item = item.pieces ≡ []

said_so : (test : Bool) (is change : Change) → (if test then Some is else None) ≡ Some change → is
    ≡ change
said_so true is change e = same_some is change e
said_so false is change e = absurd (some_or_none change e)

module _ (version : ℕ) (t : Told) (told : IsTold version t.at t) where
  lone : (number : ℕ) → number ≡ t.item.first.kind → (number == 9) ≡ false → t.item.pieces ≡ []
  lone number same other = single_alone t.item told.item (ap (λ n. n == 9) (sym same) ∙ other)

  by_kind : (k : Option Kind) → kind_in version t.item.first.kind ≡ k → (change : Change)
      → change_by k t.item.first t.item.pieces ≡ Some change → IsAlone change t.item
  by_kind (Some kind.PlainMeta) e change says =
      subst (λ c. IsAlone c t.item) (said_so _ _ change says) tt
  by_kind (Some kind.Meta) e change says =
      subst (λ c. IsAlone c t.item) (said_so _ _ change says) tt
  by_kind (Some kind.Policy) e change says =
      subst (λ c. IsAlone c t.item) (said_so _ _ change says)
      (lone 2 (kind_number version t.item.first.kind kind.Policy e) refl)
  by_kind (Some kind.PlainDocument) e change says =
      subst (λ c. IsAlone c t.item) (said_so _ _ change says) tt
  by_kind (Some kind.Document) e change says =
      subst (λ c. IsAlone c t.item) (said_so _ _ change says) tt
  by_kind (Some kind.LongDocument) e change says =
      subst (λ c. IsAlone c t.item) (said_so _ _ change says) tt
  by_kind (Some kind.Piece) e change says = absurd (some_or_none change says)
  by_kind (Some kind.Gone) e change says =
      subst (λ c. IsAlone c t.item) (said_so _ _ change says) tt
  by_kind (Some kind.Base) e change says =
      subst (λ c. IsAlone c t.item) (said_so _ _ change says)
      (lone 5 (kind_number version t.item.first.kind kind.Base e) refl)
  by_kind (Some kind.Delta) e wanted says =
      subst (λ c. IsAlone c t.item)
      (same_some (change.Delta t.item.first.key t.item.first.payload) wanted says)
      (lone 6 (kind_number version t.item.first.kind kind.Delta e) refl)
  by_kind None e change says = absurd (some_or_none change says)

  pub is_alone : IsAlone t.change t.item
  is_alone = by_kind (kind_in version t.item.first.kind) refl t.change told.says

-- ---- the parts of a term page

pub record PagePart : Type 0 where
  pub base : Bool
  pub payload : List ℕ

abbrev part : Bool → List ℕ → PagePart
part base payload = record { base = base; payload = payload }

abbrev parts_with : Option (List ℕ) → List (List ℕ) → List PagePart
parts_with base deltas = map (part true) (option_to_list base) ++ map (part false) deltas

abbrev pub page_parts : TermPage → List PagePart
page_parts page = parts_with page.base page.deltas

not_first : (position : ℕ) (test : Bool) → ((suc position == 0) && test) ≡ false
not_first position test =
    ap (λ b. b && test) (ne_eqb (suc position) 0 (λ e. omega (arith, e)))

never : (position : ℕ) → ((position == 0) && false) ≡ false
never zero = refl
never (suc position) = not_first position false

delta_at : (base : Bool) (deltas : List (List ℕ)) (k : ℕ) (payload : List ℕ) → base ≡ false
    → slice_get deltas k ≡ Some payload
    → slice_get (map (part false) deltas) k ≡ Some (part base payload)
delta_at base deltas k payload other e =
    slice_get-map (part false) deltas k ∙ ap (option_map (part false)) e
    ∙ ap (λ b. Some (part b payload)) (sym other)

at_position : (base : Option (List ℕ)) (deltas : List (List ℕ)) (k : ℕ) (payload : List ℕ)
    → slice_get (option_to_list base ++ deltas) k ≡ Some payload
    → slice_get (parts_with base deltas) k ≡ Some (part ((k == 0) && is_some base) payload)
at_position None deltas k payload e =
    delta_at ((k == 0) && false) deltas k payload (never k) e
at_position (Some base) deltas zero payload e =
    ap (λ p. Some (part true p)) (same_some base payload e)
at_position (Some base) deltas (suc k) payload e =
    delta_at ((suc k == 0) && true) deltas k payload (not_first k true) e

pub part_at : (page : TermPage) (k : ℕ) (payload : List ℕ)
    → slice_get (term_parts page) k ≡ Some payload
    → slice_get (page_parts page) k ≡ Some (part (is_base_at page k) payload)
part_at page k payload e = at_position page.base page.deltas k payload e

pub parts_long : (page : TermPage) → length (page_parts page) ≡ length (term_parts page)
parts_long page =
    omega (
      arith,
      length-append (map (part true) (option_to_list page.base)) (map (part false) page.deltas),
      length-map (option_to_list page.base) (part true),
      length-map page.deltas (part false),
      length-append (option_to_list page.base) page.deltas,
    )

-- ---- what is held, with its places

-- the change says this part of a page
abbrev pub IsSaid : ℕ → Bool → List ℕ → Change → Type 0
IsSaid page true payload c = c ≡ change.Base page payload
IsSaid page false payload c = c ≡ change.Delta page payload

pub record IsDocumentFrom (P : Told → Type 0) (number : ℕ) (document : Stored)
    (at : List Place) : Type 0 where
  pub one : Told
  pub so : P one
  pub written : Written
  pub said : one.change ≡ change.Document number written
  pub is : document ≡ stored number written
  pub stand : at ≡ places_from one.at (item_parts one.item)

pub record IsPolicyFrom (P : Told → Type 0) (number : ℕ) (text : List ℕ)
    (at : List Place) : Type 0 where
  pub one : Told
  pub so : P one
  pub said : one.change ≡ change.Policy number text
  pub stand : at ≡ places_from one.at (item_parts one.item)

pub record IsPartFrom (P : Told → Type 0) (page : ℕ) (place : Place)
    (held : PagePart) : Type 0 where
  pub one : Told
  pub so : P one
  pub said : IsSaid page held.base held.payload one.change
  pub place_is : place.at ≡ one.at

abbrev pub ArePartsFrom : (Told → Type 0) → ℕ → List Place → TermPage → Type 0
ArePartsFrom P number at page = AllZip (IsPartFrom P number) at (page_parts page)

pub record AreFrom (P : Told → Type 0) (contents : Contents) (places : PagePlaces) : Type 0 where
  pub documents : AreMatched (IsDocumentFrom P) contents.documents places.documents
  pub policies : AreMatched (IsPolicyFrom P) contents.policies places.policies
  pub terms : AllNumbered (ArePartsFrom P) 0 places.terms contents.terms

module _ (P : Told → Type 0) (alone : (t : Told) → P t → IsAlone t.change t.item) where
  -- the one part of an item that says a base or a delta
  one_part : (t : Told) (page : ℕ) (base : Bool) (payload : List ℕ) → P t
      → IsSaid page base payload t.change → t.item.pieces ≡ []
      → AllZip (IsPartFrom P page) (places_from t.at (item_parts t.item)) (part base payload ∷ [])
  one_part t page base payload so said none =
      subst (λ pieces. AllZip (IsPartFrom P page) (places_from t.at (t.item.first ∷ pieces))
      (part base payload ∷ [])) (sym none)
      (record { one = t; so = so; said = said; place_is = refl }, tt)

  one_more : (t : Told) (c : Change) (before : Contents) (places : PagePlaces) → P t → t.change ≡ c
      → is_allowed c before ≡ true → AreFrom P before places
      → AreFrom P (with_change c before)
      (with_places c (places_from t.at (item_parts t.item)) places)
  one_more t (change.Meta numbers) before places so e allowed from = record {
    documents = from.documents;
    policies = from.policies;
    terms = from.terms;
  }
  one_more t (change.Policy number text) before places so e allowed from = record {
    documents = from.documents;
    policies = one_matched (IsPolicyFrom P) before.policies places.policies number from.policies
        text (places_from t.at (item_parts t.item))
        (record { one = t; so = so; said = e; stand = refl });
    terms = from.terms;
  }
  one_more t (change.Document number written) before places so e allowed from = record {
    documents = one_matched (IsDocumentFrom P) before.documents places.documents number
        from.documents (stored number written) (places_from t.at (item_parts t.item))
        (record { one = t; so = so; written = written; said = e; is = refl; stand = refl });
    policies = from.policies;
    terms = from.terms;
  }
  one_more t (change.Gone number) before places so e allowed from = record {
    documents = less_matched (IsDocumentFrom P) before.documents places.documents number
        from.documents;
    policies = from.policies;
    terms = from.terms;
  }
  one_more t (change.Base page payload) before places so e allowed from = record {
    documents = from.documents;
    policies = from.policies;
    terms = numbered_put (ArePartsFrom P) places.terms before.terms page
        (places_from t.at (item_parts t.item)) (with_base payload) from.terms
        (base_place page payload before.terms allowed)
        (one_part t page true payload so e
        (subst (λ c. IsAlone c t.item) e (alone t so)));
  }
  one_more t (change.Delta page payload) before places so e allowed from =
      let old : TermPage = term_page page before.terms in
      let at : List Place = get_or places.terms page [] in
      let new : List Place = places_from t.at (item_parts t.item) in
      let same : page_parts old ++ part false payload ∷ [] ≡ page_parts (with_delta payload old) =
      append_assoc (map (part true) (option_to_list old.base)) (map (part false) old.deltas)
      (part false payload ∷ [])
      ∙ ap (λ more. map (part true) (option_to_list old.base) ++ more)
      (sym (map-append (part false) old.deltas (payload ∷ []))) in
      let number : page ≡ 0 + page = omega arith in
      let more : AllZip (IsPartFrom P page) (at ++ new) (page_parts (with_delta payload old)) =
      subst (λ held. AllZip (IsPartFrom P page) (at ++ new) held) same
      (zip_joined (IsPartFrom P page) at (page_parts old) new (part false payload ∷ [])
      (subst (λ n. ArePartsFrom P n at old) (sym number)
      (numbered_get (ArePartsFrom P) 0 places.terms before.terms page [] no_term_page from.terms tt))
      (one_part t page false payload so e (subst (λ c. IsAlone c t.item) e (alone t so)))) in
      record {
        documents = from.documents;
        policies = from.policies;
        terms = numbered_set (ArePartsFrom P) 0 places.terms before.terms page (at ++ new)
            (with_delta payload old) from.terms
            (subst (λ n. ArePartsFrom P n (at ++ new) (with_delta payload old)) number more);
      }

  nothing_from : AreFrom P no_contents no_places
  nothing_from = record {
    documents = none_matched (IsDocumentFrom P);
    policies = none_matched (IsPolicyFrom P);
    terms = (tt, tt);
  }

  all_from : (told : List Told) (before after : Contents) (places : PagePlaces)
      → after_changes (changes_of told) before ≡ Some after → AllByRecursion P told
      → AreFrom P before places → AreFrom P after (places_after told places)
  all_from [] before after places lead all from =
      subst (λ c. AreFrom P c places) (same_some before after lead) from
  all_from (t ∷ told) before after places lead all from =
      let step = first_step t.change (changes_of told) before after lead in
      let is = made t.change before step.between step.first in
      let new : PagePlaces =
      with_places t.change (places_from t.at (item_parts t.item)) places in
      all_from told step.between after new step.others all.1
      (subst (λ c. AreFrom P c new) (sym is.is)
      (one_more t t.change before places all.0 refl is.allowed from))

pub held_from : (version : ℕ) (frames : List (List ℕ)) (told : List Told) (contents : Contents)
    → TellOn version frames 0 told → Lead told no_contents contents
    → AreFrom (IsOneTold version told) contents (places_after told no_places)
held_from version frames told contents tell lead =
    let P : Told → Type 0 = IsOneTold version told in
    let alone : (t : Told) → P t → IsAlone t.change t.item =
    λ t so. is_alone version t so.is_told in
    all_from P alone told no_contents contents no_places lead
    (each_one version [] told (each_told_on version frames 0 told tell)) (nothing_from P alone)
