-- At an offset of an area one thing begins at most: of all parts that count no two stand at one place.
use Rattle.std.proofs.Common.{◌≡◌, ℕ, zero, suc, ◌+◌, ◌<◌, ◌≤◌, nat_lt, arith, Bool, true, false}
use Rattle.std.proofs.Common.{List, [], ◌∷◌, ◌++◌, length, get_or, slice_get, slice_set, refl, sym}
use Rattle.std.proofs.Common.{ap, subst, ◌∙◌}
use Rattle.std.specs.Prelude.{Some, if◌then◌else◌}
use Rattle.std.specs.List.{AllByRecursion, Contains}
use Rattle.std.specs.FinMap as map
use Rattle.ax_area.specs.Changes.{Change, Written}
use Rattle.ax_area.specs.Changes as change
use Rattle.ax_area.specs.Contents.{Contents, no_contents}
use Rattle.ax_area.specs.Items.{item_parts}
use Rattle.ax_area.specs.Places.{Place, PagePlaces, no_places, places_from, with_places}
use Rattle.ax_area.specs.Places.{places_after}
use Rattle.ax_area.specs.Told.{Told, TellOn, Lead}
use Rattle.ax_area.proofs.KeptSo.{all_push}
use Rattle.ax_area.proofs.OneTelling.{same_some, some_or_none}
use Rattle.ax_image_grammar.specs.Met.{BeginAt, IsPartAt}
use Rattle.ax_image_grammar.proofs.Matched.{left_of}
use Rattle.ax_image_grammar.proofs.FromTold.{IsOneTold, IsAlone, is_alone, each_told_on, IsSaid}
use Rattle.ax_image_grammar.proofs.FromTold.{IsDocumentFrom, IsPolicyFrom, held_from}
use Rattle.ax_image_grammar.proofs.MetThere.{front_at, part_from_place}
use Rattle.ax_image_grammar.proofs.Once.{Rise, tells_rise, told_once}

-- ---- the parts of a term page rise

-- each stands behind the one before, from the one offset on and before the other
abbrev RisesIn : ℕ → ℕ → List Place → Type 0
RisesIn low high [] = Unit {0}
RisesIn low high (p ∷ ps) = (low ≤ p.at) × ((p.at < high) × RisesIn (p.at + 1) high ps)

rises_higher : (low high more : ℕ) (ps : List Place) → high ≤ more → RisesIn low high ps
    → RisesIn low more ps
rises_higher low high more [] h rises = tt
rises_higher low high more (p ∷ ps) h rises =
    (rises.0, (omega (arith, h, rises.1.0), rises_higher (p.at + 1) high more ps h rises.1.1))

rises_push : (low high : ℕ) (ps : List Place) (p : Place) → RisesIn low high ps → low ≤ p.at
    → high ≤ p.at → RisesIn low (p.at + 1) (ps ++ p ∷ [])
rises_push low high [] p rises l h = (l, (omega arith, tt))
rises_push low high (q ∷ ps) p rises l h = (
  rises.0,
  (
    omega (arith, h, rises.1.0),
    rises_push (q.at + 1) high ps p rises.1.1 (omega (arith, h, rises.1.0)) h,
  ),
)

low_at : (low high : ℕ) (ps : List Place) (k : ℕ) (p : Place) → RisesIn low high ps
    → slice_get ps k ≡ Some p → low ≤ p.at
low_at low high [] k p rises e = absurd (some_or_none p e)
low_at low high (q ∷ ps) zero p rises e =
    omega (arith, rises.0, ap (λ (r : Place). r.at) (same_some q p e))
low_at low high (q ∷ ps) (suc k) p rises e =
    omega (arith, rises.0, low_at (q.at + 1) high ps k p rises.1.1 e)

one_position : (low high : ℕ) (ps : List Place) (j k : ℕ) (p q : Place) → RisesIn low high ps
    → slice_get ps j ≡ Some p → slice_get ps k ≡ Some q → p.at ≡ q.at → j ≡ k
one_position low high [] j k p q rises e f same = absurd (some_or_none p e)
one_position low high (r ∷ ps) zero zero p q rises e f same = refl
one_position low high (r ∷ ps) zero (suc k) p q rises e f same =
    absurd (omega (
      arith,
      same,
      ap (λ (s : Place). s.at) (same_some r p e),
      low_at (r.at + 1) high ps k q rises.1.1 f,
    ))
one_position low high (r ∷ ps) (suc j) zero p q rises e f same =
    absurd (omega (
      arith,
      same,
      ap (λ (s : Place). s.at) (same_some r q f),
      low_at (r.at + 1) high ps j p rises.1.1 e,
    ))
one_position low high (r ∷ ps) (suc j) (suc k) p q rises e f same =
    ap suc (one_position (r.at + 1) high ps j k p q rises.1.1 e f same)

all_set : {A : Type 0} (P : A → Type 0) (xs : List A) (k : ℕ) (x : A) → AllByRecursion P xs → P x
    → AllByRecursion P (slice_set xs k x)
all_set P [] k x all one = tt
all_set P (y ∷ xs) zero x all one = (one, all.1)
all_set P (y ∷ xs) (suc k) x all one = (all.0, all_set P xs k x all.1 one)

all_get : {A : Type 0} (P : A → Type 0) (xs : List A) (k : ℕ) (d : A) → AllByRecursion P xs → P d
    → P (get_or xs k d)
all_get P [] k d all one = one
all_get P (y ∷ xs) zero d all one = all.0
all_get P (y ∷ xs) (suc k) d all one = all_get P xs k d all.1 one

all_weaker : {A : Type 0} (P Q : A → Type 0) (xs : List A) → ((x : A) → P x → Q x)
    → AllByRecursion P xs → AllByRecursion Q xs
all_weaker P Q [] weaker all = tt
all_weaker P Q (x ∷ xs) weaker all = (weaker x all.0, all_weaker P Q xs weaker all.1)

abbrev AllRise : ℕ → List (List Place) → Type 0
AllRise high places = AllByRecursion (RisesIn 0 high) places

module _ (t : Told) (high : ℕ) (places : PagePlaces) (behind : high ≤ t.at)
    (all : AllRise high places.terms) where
  abbrev new : List Place
  new = places_from t.at (item_parts t.item)

  as_before : AllRise (t.at + 1) places.terms
  as_before = all_weaker (RisesIn 0 high) (RisesIn 0 (t.at + 1)) places.terms
      (λ ps. rises_higher 0 high (t.at + 1) ps (omega (arith, behind))) all

  one_alone : t.item.pieces ≡ [] → RisesIn 0 (t.at + 1) new
  one_alone none =
      subst (λ pieces. RisesIn 0 (t.at + 1) (places_from t.at (t.item.first ∷ pieces)))
      (sym none) (omega arith, (omega arith, tt))

  one_behind : (page : ℕ) → t.item.pieces ≡ []
      → RisesIn 0 (t.at + 1) (get_or places.terms page [] ++ new)
  one_behind page none =
      let at : List Place = get_or places.terms page [] in
      subst (λ pieces. RisesIn 0 (t.at + 1) (at ++ places_from t.at (t.item.first ∷ pieces)))
      (sym none) (rises_push 0 high at (record {
        at = t.at;
        kind = t.item.first.kind;
        len = length t.item.first.payload;
      }) (all_get (RisesIn 0 high) places.terms page [] all tt) (omega arith) behind)

  one_put : (b : Bool) (page : ℕ) → t.item.pieces ≡ []
      → AllRise (t.at + 1)
      (if b then slice_set places.terms page new else places.terms ++ new ∷ [])
  one_put true page none =
      all_set (RisesIn 0 (t.at + 1)) places.terms page new as_before (one_alone none)
  one_put false page none =
      all_push (RisesIn 0 (t.at + 1)) places.terms new as_before (one_alone none)

  one_rises : (c : Change) → IsAlone c t.item
      → AllRise (t.at + 1) (with_places c new places).terms
  one_rises (change.Meta numbers) alone = as_before
  one_rises (change.Policy number text) alone = as_before
  one_rises (change.Document number written) alone = as_before
  one_rises (change.Gone number) alone = as_before
  one_rises (change.Base page payload) alone =
      one_put (nat_lt page (length places.terms)) page alone
  one_rises (change.Delta page payload) alone =
      all_set (RisesIn 0 (t.at + 1)) places.terms page (get_or places.terms page [] ++ new)
      as_before (one_behind page alone)

all_rise : (told : List Told) (high : ℕ) (places : PagePlaces) → Rise high told
    → AllByRecursion (λ (t : Told). IsAlone t.change t.item) told → AllRise high places.terms
    → (top : ℕ) × AllRise top (places_after told places).terms
all_rise [] high places rise alone all = (high, all)
all_rise (t ∷ told) high places rise alone all =
    all_rise told (t.at + 1)
    (with_places t.change (places_from t.at (item_parts t.item)) places) rise.1 alone.1
    (one_rises t high places rise.0 all t.change alone.0)

-- ---- what begins at an offset

abbrev number_in : Change → ℕ
number_in (change.Meta numbers) = 0
number_in (change.Policy number text) = number
number_in (change.Document number written) = number
number_in (change.Gone number) = number
number_in (change.Base page payload) = page
number_in (change.Delta page payload) = page

-- what the change is of, by number
abbrev sort_of : Change → ℕ
sort_of (change.Meta numbers) = 0
sort_of (change.Policy number text) = 1
sort_of (change.Document number written) = 2
sort_of (change.Gone number) = 3
sort_of (change.Base page payload) = 4
sort_of (change.Delta page payload) = 4

-- it is of this sort, with this number
record IsOf (sort number : ℕ) (c : Change) : Type 0 where
  of_sort : sort_of c ≡ sort
  of_number : number_in c ≡ number

-- what was told at an offset is so
record IsToldAt (told : List Told) (sort number at : ℕ) : Type 0 where
  one : Told
  is_in : Contains told one
  place : one.at ≡ at
  so : IsOf sort number one.change

part_of : (page : ℕ) (base : Bool) (payload : List ℕ) (c : Change) → IsSaid page base payload c
    → IsOf 4 page c
part_of page true payload c said = record {
  of_sort = ap sort_of said;
  of_number = ap number_in said;
}
part_of page false payload c said = record {
  of_sort = ap sort_of said;
  of_number = ap number_in said;
}

module _ (version : ℕ) (frames : List (List ℕ)) (told : List Told) (contents : Contents)
    (tell : TellOn version frames 0 told) (lead : Lead told no_contents contents) where
  abbrev documents : ℕ → ℕ → Type 0
  documents number at = BeginAt (map.get (places_after told no_places).documents number) at

  abbrev policies : ℕ → ℕ → Type 0
  policies number at = BeginAt (map.get (places_after told no_places).policies number) at

  document_told : (number at : ℕ) → documents number at → IsToldAt told 2 number at
  document_told number at begin =
      let is = left_of (IsDocumentFrom (IsOneTold version told) number)
      (map.get contents.documents number) (map.get (places_after told no_places).documents number)
      ((held_from version frames told contents tell lead).documents number)
      (begin.front ∷ begin.pieces) begin.stand in
      record {
        one = is.2.one;
        is_in = is.2.so.is_in;
        place = sym (ap front_at is.2.stand) ∙ begin.place;
        so = record { of_sort = ap sort_of is.2.said; of_number = ap number_in is.2.said };
      }

  policy_told : (number at : ℕ) → policies number at → IsToldAt told 1 number at
  policy_told number at begin =
      let is = left_of (IsPolicyFrom (IsOneTold version told) number)
      (map.get contents.policies number) (map.get (places_after told no_places).policies number)
      ((held_from version frames told contents tell lead).policies number)
      (begin.front ∷ begin.pieces) begin.stand in
      record {
        one = is.2.one;
        is_in = is.2.so.is_in;
        place = sym (ap front_at is.2.stand) ∙ begin.place;
        so = record { of_sort = ap sort_of is.2.said; of_number = ap number_in is.2.said };
      }

  part_told : (page position at : ℕ) → IsPartAt page position told at → IsToldAt told 4 page at
  part_told page position at there =
      let is = part_from_place version frames told contents tell lead page position at there in
      record {
        one = is.one;
        is_in = is.so.is_in;
        place = is.place;
        so = part_of page is.base is.payload is.one.change is.said;
      }

  -- one change was told at an offset
  record IsOfBoth (a b n m : ℕ) : Type 0 where
    sorts : a ≡ b
    numbers : n ≡ m

  of_both : (a b n m at : ℕ) → IsToldAt told a n at → IsToldAt told b m at → IsOfBoth a b n m
  of_both a b n m at one other =
      let same : other.one ≡ one.one = told_once 0 told other.one one.one
      (tells_rise version frames 0 told tell) other.is_in one.is_in
      (other.place ∙ sym one.place) in
      let so : IsOf b m one.one.change =
      subst (λ (t : Told). IsOf b m t.change) same other.so in
      record {
        sorts = sym one.so.of_sort ∙ so.of_sort;
        numbers = sym one.so.of_number ∙ so.of_number;
      }

  pub one_document : (n m at : ℕ) → documents n at → documents m at → n ≡ m
  one_document n m at one other =
      (of_both 2 2 n m at (document_told n at one) (document_told m at other)).numbers

  pub one_policy : (n m at : ℕ) → policies n at → policies m at → n ≡ m
  one_policy n m at one other =
      (of_both 1 1 n m at (policy_told n at one) (policy_told m at other)).numbers

  pub one_page : (p q j k at : ℕ) → IsPartAt p j told at → IsPartAt q k told at → p ≡ q
  one_page p q j k at one other =
      (of_both 4 4 p q at (part_told p j at one) (part_told q k at other)).numbers

  page_rises : (page : ℕ)
      → (top : ℕ) × RisesIn 0 top (get_or (places_after told no_places).terms page [])
  page_rises page =
      let told_alone : AllByRecursion (λ (t : Told). IsAlone t.change t.item) told =
      all_weaker _ _ told (λ t is. is_alone version t is)
      (each_told_on version frames 0 told tell) in
      let all = all_rise told 0 no_places (tells_rise version frames 0 told tell) told_alone
      (tt, tt) in
      (all.0, all_get (RisesIn 0 all.0) (places_after told no_places).terms page [] all.1 tt)

  pub one_position_there : (p q j k at : ℕ) → IsPartAt p j told at → IsPartAt q k told at → j ≡ k
  one_position_there p q j k at one other =
      let there : IsPartAt p k told at =
      subst (λ page. IsPartAt page k told at) (sym (one_page p q j k at one other)) other in
      let rises = page_rises p in
      one_position 0 rises.0 (get_or (places_after told no_places).terms p []) j k
      one.place there.place rises.1 one.stands there.stands
      (one.place_is ∙ sym there.place_is)

  pub document_not_policy : (n m at : ℕ) → documents n at → policies m at → ⊥
  document_not_policy n m at one other =
      let both = of_both 2 1 n m at (document_told n at one) (policy_told m at other) in
      omega (arith, both.sorts)

  pub document_not_part : (n p k at : ℕ) → documents n at → IsPartAt p k told at → ⊥
  document_not_part n p k at one other =
      let both = of_both 2 4 n p at (document_told n at one) (part_told p k at other) in
      omega (arith, both.sorts)

  pub policy_not_part : (n p k at : ℕ) → policies n at → IsPartAt p k told at → ⊥
  policy_not_part n p k at one other =
      let both = of_both 1 4 n p at (policy_told n at one) (part_told p k at other) in
      omega (arith, both.sorts)
