-- The offsets at which the store keeps the parts of documents, of policies and of term pages are the places at which those that
-- were told stand.
use Rattle.std.proofs.Common.{◌≡◌, ℕ, zero, suc, ◌+◌, Bool, true, false, List, [], ◌∷◌, ◌++◌, length, map, drop, Option, refl}
use Rattle.std.proofs.Common.{sym, ap, subst, ◌∙◌, ⊎_elim}
use Rattle.std.specs.Prelude.{Some, None, if◌then◌else◌, nat_lt, slice_get, slice_index, slice_index_or, slice_set}
use Rattle.std.specs.FinMap as finite
use Rattle.std.specs.Option.{option_map}
use Rattle.std.specs.Ordering.{nat_cmp}
use Rattle.std.proofs.lemmas.Bool.{cases_eq}
use Rattle.std.proofs.lemmas.List.{append-nil, length-map, map-append, map-set, map_push}
use Rattle.std.proofs.lemmas.Option.{slice_get-map}
use Rattle.ax_frame.proofs.Parts.{one_list}
use Rattle.ax_frame.specs.Part.{PartValue, part_bytes}
use Rattle.ax_pages.proofs.LastPart.{get_inserted, get_not_inserted, get_removed, get_not_removed}
use Rattle.ax_pages.specs.AfterPart.{kind_of}
use Rattle.ax_pages.specs.declared.page.Kind.{Kind}
use Rattle.ax_pages.specs.declared.page.Kind.TheVariants as kind
use Rattle.ax_pages.specs.declared.page.Page.TheVariants.{Term}
use Rattle.ax_area.specs.Changes.{Change, change_by, change_of}
use Rattle.ax_area.specs.Changes as change
use Rattle.ax_area.specs.Items.{Item, item_bytes, item_parts, number_at, single}
use Rattle.ax_area.specs.Places.{Place, PagePlaces, no_places, places_after, places_from, with_base_places, with_delta_places, with_places}
use Rattle.ax_area.specs.Told.{Told, IsTold, AreTold, TellOn, told_bytes}
use Rattle.ax_area.proofs.OneTelling.{same_some, some_or_none}
use Rattle.ax_image.specs.Readable.{newest}
use Rattle.ax_image_grammar.specs.Met.{BeginAt, IsPartAt}
use Rattle.ax_area_laws.proofs.Parts.{one_part_told, parts_told, are_parts}
use Rattle.ax_area_laws.proofs.Refusing.{no_kind}
use Rattle.ax_area_laws.proofs.Stepping.{kind_number}
use Rattle.ax_store.specs.Kept.{Kept, PageOffsets, no_offsets, offsets_after, offsets_after_parts, offsets_of, with_base_at, with_delta_at}
use Rattle.ax_store.specs.Loading.{TakesOn}
use Rattle.ax_store.specs.Rows.{Offsets}

abbrev NumberedPlaces : Type 0
NumberedPlaces = finite.FinMap nat_cmp (List Place)

-- where the first part stands
abbrev first_at : List Place → Option ℕ
first_at [] = None
first_at (first ∷ pieces) = Some first.at

-- where each of them stands
abbrev offsets_there : List Place → List ℕ
offsets_there places = map (λ (place : Place). place.at) places

-- each has the one part in the one, and begins with that part in the other
abbrev AreAlike : Offsets → NumberedPlaces → Type 0
AreAlike offsets places =
    (number : ℕ) → option_map first_at (finite.get places number)
    ≡ option_map (λ (at : ℕ). Some at) (finite.get offsets number)

-- the documents and the policies begin at the offsets, and page by page the parts of term pages stand there
pub record Alike (offsets : PageOffsets) (places : PagePlaces) : Type 0 where
  documents : AreAlike offsets.documents places.documents
  policies : AreAlike offsets.policies places.policies
  terms : map offsets_there places.terms ≡ offsets.terms

pub nothing_alike : Alike no_offsets no_places
nothing_alike = record { documents = none; policies = none; terms = refl }
  where
    none : AreAlike finite.empty finite.empty
    none number =
        ap (option_map first_at) (finite.get-empty nat_cmp number)
        ∙ sym (ap (option_map (λ (at : ℕ). Some at)) (finite.get-empty nat_cmp number))

-- ---- by number

put_alike : (offsets : Offsets) (places : NumberedPlaces) (key at : ℕ) (first : Place) (pieces : List Place)
    → first.at ≡ at → AreAlike offsets places
    → AreAlike (finite.insert offsets key at) (finite.insert places key (first ∷ pieces))
put_alike offsets places key at first pieces there alike number =
    ⊎_elim
    (λ (same : number ≡ key).
    subst (λ n. option_map first_at (finite.get (finite.insert places key (first ∷ pieces)) n)
    ≡ option_map (λ (at : ℕ). Some at) (finite.get (finite.insert offsets key at) n)) (sym same)
    (ap (option_map first_at) (get_inserted places key (first ∷ pieces))
    ∙ ap (λ (at : ℕ). Some (Some at)) there
    ∙ sym (ap (option_map (λ (at : ℕ). Some at)) (get_inserted offsets key at))))
    (λ (apart : number ≡ key → ⊥).
    ap (option_map first_at) (get_not_inserted places key number (first ∷ pieces) apart)
    ∙ alike number
    ∙ sym (ap (option_map (λ (at : ℕ). Some at)) (get_not_inserted offsets key number at apart)))
    (cases_eq number key)

gone_alike : (offsets : Offsets) (places : NumberedPlaces) (key : ℕ) → AreAlike offsets places
    → AreAlike (finite.remove offsets key) (finite.remove places key)
gone_alike offsets places key alike number =
    ⊎_elim
    (λ (same : number ≡ key).
    subst (λ n. option_map first_at (finite.get (finite.remove places key) n)
    ≡ option_map (λ (at : ℕ). Some at) (finite.get (finite.remove offsets key) n)) (sym same)
    (ap (option_map first_at) (get_removed places key)
    ∙ sym (ap (option_map (λ (at : ℕ). Some at)) (get_removed offsets key))))
    (λ (apart : number ≡ key → ⊥).
    ap (option_map first_at) (get_not_removed places key number apart)
    ∙ alike number
    ∙ sym (ap (option_map (λ (at : ℕ). Some at)) (get_not_removed offsets key number apart)))
    (cases_eq number key)

-- ---- of term pages

put_there : (within : Bool) (places : List (List Place)) (key : ℕ) (new : List Place)
    → map offsets_there (if within then slice_set places key new else places ++ new ∷ [])
    ≡ (if within then slice_set (map offsets_there places) key (offsets_there new)
    else map offsets_there places ++ offsets_there new ∷ [])
put_there true places key new = map-set offsets_there places key new
put_there false places key new = map_push offsets_there places new

base_alike : (places : List (List Place)) (key : ℕ) (new : List Place)
    → map offsets_there (with_base_places key new places)
    ≡ (if nat_lt key (length (map offsets_there places)) then slice_set (map offsets_there places) key (offsets_there new)
    else map offsets_there places ++ offsets_there new ∷ [])
base_alike places key new =
    put_there (nat_lt key (length places)) places key new
    ∙ ap (λ n. if nat_lt key n then slice_set (map offsets_there places) key (offsets_there new)
    else map offsets_there places ++ offsets_there new ∷ []) (sym (length-map places offsets_there))

page_there : (places : List (List Place)) (page : ℕ)
    → slice_index_or (map offsets_there places) page [] ≡ offsets_there (slice_index_or places page [])
page_there [] page = refl
page_there (parts ∷ places) zero = refl
page_there (parts ∷ places) (suc page) = page_there places page

delta_alike : (places : List (List Place)) (page : ℕ) (new : List Place)
    → map offsets_there (with_delta_places page new places)
    ≡ slice_set (map offsets_there places) page (slice_index_or (map offsets_there places) page [] ++ offsets_there new)
delta_alike places page new =
    map-set offsets_there places page (slice_index_or places page [] ++ new)
    ∙ ap (slice_set (map offsets_there places) page)
    (map-append (λ (place : Place). place.at) (slice_index_or places page []) new
    ∙ ap (λ (there : List ℕ). there ++ offsets_there new) (sym (page_there places page)))

-- ---- what is told

-- where something is said, it is this
said : (test : Bool) (one other : Change) → (if test then Some one else None) ≡ Some other → one ≡ other
said true one other is = same_some one other is
said false one other is = absurd (some_or_none other is)

module _ (t : Told) (at : ℕ) (is : IsTold newest at t) where
  abbrev first : PartValue
  first = t.item.first

  says_kind : (n : ℕ) → first.kind ≡ n → change_of newest (single first) ≡ Some t.change
      → change_of newest (single (record { kind = n; key = first.key; payload = first.payload })) ≡ Some t.change
  says_kind n same says = ap (λ k. change_of newest (single (record { kind = k; key = first.key; payload = first.payload }))) (sym same) ∙ says

  abbrev new_places : List Place
  new_places = record { at = t.at; kind = first.kind; len = length first.payload } ∷ []

  module _ (offsets : PageOffsets) (places : PagePlaces) (alike : Alike offsets places) where
    abbrev Goal : Change → Option Kind → Type 0
    Goal change found = Alike (offsets_after found first.key at offsets) (with_places change new_places places)

    by_found : (found : Option Kind) → kind_of first.kind ≡ found → change_of newest (single first) ≡ Some t.change
        → Goal t.change found
    by_found None none says =
        absurd (some_or_none t.change (sym (ap (λ k. change_by k first []) (no_kind first.kind none)) ∙ says))
    by_found (Some kind.Meta) found says =
        subst (λ c. Goal c (Some kind.Meta))
        (said _ (change.Meta (record {
          next = number_at 0 first.payload;
          policy = number_at 4 first.payload;
          version = None;
        })) t.change (says_kind 1 (kind_number first.kind kind.Meta found) says))
        (record { documents = alike.documents; policies = alike.policies; terms = alike.terms })
    by_found (Some kind.Policy) found says =
        subst (λ c. Goal c (Some kind.Policy))
        (said _ (change.Policy first.key first.payload) t.change (says_kind 2 (kind_number first.kind kind.Policy found) says))
        (record {
          documents = alike.documents;
          policies = put_alike offsets.policies places.policies first.key at _ [] is.at_is alike.policies;
          terms = alike.terms;
        })
    by_found (Some kind.Document) found says =
        subst (λ c. Goal c (Some kind.Document))
        (said _ (change.Document first.key (record {
          policy = slice_index first.payload 0;
          version = None;
          text = drop 1 first.payload ++ [];
        })) t.change (says_kind 3 (kind_number first.kind kind.Document found) says))
        (record {
          documents = put_alike offsets.documents places.documents first.key at _ [] is.at_is alike.documents;
          policies = alike.policies;
          terms = alike.terms;
        })
    by_found (Some kind.Gone) found says =
        subst (λ c. Goal c (Some kind.Gone))
        (said _ (change.Gone first.key) t.change (says_kind 4 (kind_number first.kind kind.Gone found) says))
        (record {
          documents = gone_alike offsets.documents places.documents first.key alike.documents;
          policies = alike.policies;
          terms = alike.terms;
        })
    by_found (Some kind.Base) found says =
        subst (λ c. Goal c (Some kind.Base))
        (said _ (change.Base first.key first.payload) t.change (says_kind 5 (kind_number first.kind kind.Base found) says))
        (record {
          documents = alike.documents;
          policies = alike.policies;
          terms =
              base_alike places.terms first.key new_places
              ∙ (λ i. with_base_at first.key (is.at_is i) (alike.terms i));
        })
    by_found (Some kind.Delta) found says =
        subst (λ c. Goal c (Some kind.Delta))
        (same_some (change.Delta first.key first.payload) t.change (says_kind 6 (kind_number first.kind kind.Delta found) says))
        (record {
          documents = alike.documents;
          policies = alike.policies;
          terms =
              delta_alike places.terms first.key new_places
              ∙ (λ i. with_delta_at first.key (is.at_is i) (alike.terms i));
        })

    one_alike : Alike (offsets_after (kind_of first.kind) first.key at offsets)
        (with_places t.change (places_from t.at (item_parts t.item)) places)
    one_alike =
        subst (λ (item : Item). Alike (offsets_after (kind_of first.kind) first.key at offsets)
        (with_places t.change (places_from t.at (item_parts item)) places)) (sym (one_part_told t at is))
        (by_found (kind_of first.kind) refl (ap (change_of newest) (sym (one_part_told t at is)) ∙ is.says))

-- ---- one behind another

all_alike : (told : List Told) (at : ℕ) (offsets : PageOffsets) (places : PagePlaces) → AreTold newest at told
    → Alike offsets places
    → Alike (offsets_after_parts (parts_told told) at offsets) (places_after told places)
all_alike [] at offsets places are alike = alike
all_alike (t ∷ told) at offsets places are alike =
    let new : PagePlaces = with_places t.change (places_from t.at (item_parts t.item)) places in
    let next : PageOffsets = offsets_after (kind_of t.item.first.kind) t.item.first.key at offsets in
    let long : length (item_bytes t.item) ≡ length (part_bytes t.item.first) =
    ap length (ap item_bytes (one_part_told t at are.0) ∙ append-nil (part_bytes t.item.first)) in
    subst (λ n. Alike (offsets_after_parts (parts_told told) (at + n) next) (places_after told new)) long
    (all_alike told (at + length (item_bytes t.item)) next new are.1 (one_alike t at are.0 offsets places alike))

places_joined : (first others : List Told) (places : PagePlaces)
    → places_after (first ++ others) places ≡ places_after others (places_after first places)
places_joined [] others places = refl
places_joined (t ∷ first) others places =
    places_joined first others (with_places t.change (places_from t.at (item_parts t.item)) places)

-- the frames tell this, and the pages take them
pub alike_on : (frames : List (List ℕ)) (at : ℕ) (told : List Told) (old new : Kept) (places : PagePlaces)
    → TellOn newest frames at told → TakesOn frames at old new → Alike old.offsets places
    → Alike new.offsets (places_after told places)
alike_on [] at told old new places tell (contents, offsets) alike =
    subst (λ (o : PageOffsets). Alike o (places_after told places)) (sym offsets)
    (subst (λ t. Alike old.offsets (places_after t places)) (sym tell) alike)
alike_on (frame ∷ frames) at told old new places (first, others, is, begins, more) (between, takes, on) alike =
    let are = are_parts first (at + 9) begins.are in
    let same : takes.parts ≡ parts_told first = one_list takes.parts (parts_told first) takes.fit are.fit
    (sym takes.spelled ∙ begins.spelled ∙ append-nil (told_bytes first) ∙ are.spelled) in
    let here : Alike (offsets_after_parts takes.parts (at + 9) old.offsets) (places_after first places) =
    subst (λ list. Alike (offsets_after_parts list (at + 9) old.offsets) (places_after first places)) (sym same)
    (all_alike first (at + 9) old.offsets places begins.are alike) in
    let later = alike_on frames (at + 9 + length frame) others between new (places_after first places) more on
    (subst (λ (o : PageOffsets). Alike o (places_after first places)) (sym takes.offsets) here) in
    subst (Alike new.offsets) (sym (ap (λ t. places_after t places) is ∙ places_joined first others places)) later

-- ---- what stands at an offset

begins : (there : Option (List Place)) (at : ℕ) → option_map first_at there ≡ Some (Some at) → BeginAt there at
begins None at e = absurd (some_or_none (Some at) e)
begins (Some []) at e = absurd (some_or_none at (same_some None (Some at) e))
begins (Some (front ∷ pieces)) at e = record {
  front = front;
  pieces = pieces;
  stand = refl;
  place = same_some front.at at (same_some (Some front.at) (Some at) e);
}

-- the document that has its part at an offset begins there
pub document_begins_at : (offsets : PageOffsets) (places : PagePlaces) (number at : ℕ) → Alike offsets places
    → finite.get offsets.documents number ≡ Some at → BeginAt (finite.get places.documents number) at
document_begins_at offsets places number at alike found =
    begins (finite.get places.documents number) at
    (alike.documents number ∙ ap (option_map (λ (at : ℕ). Some at)) found)

-- the policy that has its part at an offset stands there
pub policy_begins_at : (offsets : PageOffsets) (places : PagePlaces) (number at : ℕ) → Alike offsets places
    → finite.get offsets.policies number ≡ Some at → BeginAt (finite.get places.policies number) at
policy_begins_at offsets places number at alike found =
    begins (finite.get places.policies number) at
    (alike.policies number ∙ ap (option_map (λ (at : ℕ). Some at)) found)

place_of : (found : Option Place) (at : ℕ) → option_map (λ (place : Place). place.at) found ≡ Some at
    → (place : Place) × (found ≡ Some place) × (place.at ≡ at)
place_of None at e = absurd (some_or_none at e)
place_of (Some place) at e = (place, refl, same_some place.at at e)

-- the part of a term page that has this offset stands there
pub part_at : (offsets : PageOffsets) (told : List Told) (page position at : ℕ) → Alike offsets (places_after told no_places)
    → slice_get (offsets_of (Term page) offsets) position ≡ Some at → IsPartAt page position told at
part_at offsets told page position at alike found =
    let pages : List (List Place) = (places_after told no_places).terms in
    let parts : List Place = slice_index_or pages page [] in
    let there : offsets_there parts ≡ offsets_of (Term page) offsets =
    sym (page_there pages page) ∙ ap (λ (all : List (List ℕ)). slice_index_or all page []) alike.terms in
    let stands = place_of (slice_get parts position) at
    (sym (slice_get-map (λ (place : Place). place.at) parts position)
    ∙ ap (λ (list : List ℕ). slice_get list position) there ∙ found) in
    record { place = stands.0; stands = stands.1; place_is = stands.2 }
