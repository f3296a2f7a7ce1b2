-- What is told stands at the places of the parts that count.
use Rattle.std.proofs.Common.{◌≡◌, ℕ, zero, suc, ◌+◌, ◌<◌, ◌≤◌, ◌==◌, nat_lt, arith, Bool, true}
use Rattle.std.proofs.Common.{false, List, [], ◌∷◌, ◌++◌, map, Option, length, drop, get_or}
use Rattle.std.proofs.Common.{slice_set, ◌⊎◌, inl, inr, ⊎_elim, refl, sym, ap, subst, ◌∙◌}
use Rattle.std.proofs.Common.{length-append}
use Rattle.std.specs.Prelude.{◌≢◌, Some, None, if◌then◌else◌}
use Rattle.std.specs.Option.{option_to_list}
use Rattle.std.specs.List.{flat_map, AllByRecursion}
use Rattle.std.specs.Ordering.{nat_cmp}
use Rattle.std.specs.FinMap as finite
use Rattle.std.proofs.lemmas.List.{append_assoc, append-nil, map-append, get_or-set_same}
use Rattle.std.proofs.lemmas.List.{get_or-set_other, get_or_append_left, get_or_past, length-set}
use Rattle.std.proofs.lemmas.Bool.{cases_eq, cases_lt, cases_order, cond-true, cond-false, lt-ltb}
use Rattle.std.proofs.lemmas.Bool.{le-ltb, ltb-true}
use Rattle.std.proofs.Math.Seq.{get_or-append_seam}
use Rattle.ax_frame.specs.Part.{PartValue, part_bytes}
use Rattle.ax_pages.specs.Contents.{TermPage, no_term_page, term_page, term_parts}
use Rattle.ax_pages.specs.AfterPart.{with_base, with_delta, after_base, after_delta}
use Rattle.ax_pages.proofs.TermLists.{put_there, put_other, set_other, base_place}
use Rattle.ax_pages.proofs.LastPart.{get_inserted, get_not_inserted, get_removed, get_not_removed}
use Rattle.ax_area.specs.declared.kind.Kind.{Kind}
use Rattle.ax_area.specs.Kinds.{kind_in}
use Rattle.ax_area.specs.declared.kind.Kind.TheVariants as kind
use Rattle.ax_area.specs.Items.{item_parts, item_bytes}
use Rattle.ax_area.specs.Changes.{Change, Written, change_by, change_of}
use Rattle.ax_area.specs.Changes as change
use Rattle.ax_area.specs.Contents.{Contents, Stored, stored, no_contents, is_allowed, with_change}
use Rattle.ax_area.specs.Contents.{after_changes}
use Rattle.ax_area.specs.Places.{Place, PagePlaces, no_places, places_from, with_base_places}
use Rattle.ax_area.specs.Places.{with_delta_places, with_places, places_after}
use Rattle.ax_area.specs.Placed.{payload_at, text_front, text_at, ArePlaced}
use Rattle.ax_area.specs.Told.{Told, changes_of, IsTold, AreTold, TellOn, Lead}
use Rattle.ax_disk.specs.model.Image.{Image, list_of}
use Rattle.ax_area.specs.declared.root.Counting.{Counting}
use Rattle.ax_area.specs.Image.{IsLive}
use Rattle.ax_area.proofs.OneTelling.{same_some, some_or_none, first_step}
use Rattle.ax_area.proofs.KeptSo.{made}
use Rattle.ax_area.proofs.Standing.{IsStanding, IsAt, all_joined, stand_on, parts_placed}
use Rattle.ax_area.proofs.Standing.{kind_number, single_alone}

-- ---- one change

abbrev joined : List (List ℕ) → List ℕ
joined texts = flat_map (λ text. text) texts

flat_joined : {X : Type 0} (f : X → List ℕ) (xs : List X) → flat_map f xs ≡ joined (map f xs)
flat_joined f [] = refl
flat_joined f (x ∷ xs) = ap (λ more. f x ++ more) (flat_joined f xs)

front_of : List ℕ → List (List ℕ) → List ℕ
front_of other [] = other
front_of other (x ∷ xs) = x

back_of : List (List ℕ) → List (List ℕ)
back_of [] = []
back_of (x ∷ xs) = xs

same_front : (x y : List ℕ) (xs ys : List (List ℕ)) → x ∷ xs ≡ y ∷ ys → x ≡ y
unfolding front_of
same_front x y xs ys e = ap (front_of x) e

same_back : (x y : List ℕ) (xs ys : List (List ℕ)) → x ∷ xs ≡ y ∷ ys → xs ≡ ys
unfolding back_of
same_back x y xs ys e = ap back_of e

said_so : (test : Bool) (is change : Change) → (if test then Some is else None) ≡ Some change → is
    ≡ change
said_so true is change e = same_some is change e
said_so false is change e = absurd (some_or_none change e)

module _ (area : List ℕ) where
  module _ (version : ℕ) (t : Told) (at : ℕ) (told : IsTold version at t)
      (standing : IsStanding area t) where
    abbrev first : PartValue
    first = t.item.first

    abbrev pieces : List PartValue
    pieces = t.item.pieces

    abbrev places : List Place
    places = places_from t.at (item_parts t.item)

    payloads : map (payload_at area) places ≡ map (λ (p : PartValue). p.payload) (item_parts t.item)
    payloads = parts_placed
        (item_parts t.item) t.at area standing.before standing.after standing.place standing.spelled

    flat : flat_map (payload_at area) places ≡ first.payload ++ flat_map
        (λ (p : PartValue). p.payload) pieces
    flat = flat_joined (payload_at area) places ∙ ap joined payloads
        ∙ ap (λ more. first.payload ++ more) (sym
        (flat_joined (λ (p : PartValue). p.payload) pieces))

    text : text_at area places ≡ drop (text_front first.kind) first.payload ++ flat_map
        (λ (p : PartValue). p.payload) pieces
    text =
        let more : List Place = places_from (t.at + length (part_bytes first)) pieces in
        let one : Place = record { at = t.at; kind = first.kind; len = length first.payload } in
        let front = same_front (payload_at area one) first.payload (map (payload_at area) more)
        (map (λ (p : PartValue). p.payload) pieces) payloads in
        let back = same_back (payload_at area one) first.payload (map (payload_at area) more)
        (map (λ (p : PartValue). p.payload) pieces) payloads in
        ap (λ payload. drop (text_front first.kind) payload ++ flat_map
        (payload_at area) more) front
        ∙ ap (λ texts. drop (text_front first.kind) first.payload ++ texts)
        (flat_joined (payload_at area) more ∙ ap joined back
        ∙ sym (flat_joined (λ (p : PartValue). p.payload) pieces))

    -- a part by itself
    lone : (number : ℕ) → number ≡ first.kind → (number == 9) ≡ false → pieces ≡ []
    lone number same other = single_alone t.item told.item (ap (λ n. n == 9) (sym same) ∙ other)

    flat_lone : pieces ≡ [] → flat_map (payload_at area) places ≡ first.payload
    flat_lone none =
        flat ∙ ap (λ (ps : List PartValue). first.payload ++ flat_map
        (λ (p : PartValue). p.payload) ps) none ∙ append-nil first.payload

    list_lone : pieces ≡ [] → map (payload_at area) places ≡ first.payload ∷ []
    list_lone none =
        payloads ∙ ap (λ (ps : List PartValue). first.payload ∷ map
        (λ (p : PartValue). p.payload) ps) none

    text_by : (number : ℕ) → number ≡ first.kind → text_at area places
        ≡ drop (text_front number) first.payload ++ flat_map (λ (p : PartValue). p.payload) pieces
    text_by number same =
        text ∙ ap (λ n. drop (text_front n) first.payload ++ flat_map
        (λ (p : PartValue). p.payload) pieces) (sym same)

    by_kind : (k : Option Kind) → kind_in version first.kind ≡ k → (change : Change)
        → change_by k first pieces ≡ Some change → IsAt area change places
    by_kind (Some kind.PlainMeta) e change says =
        subst (λ c. IsAt area c places) (said_so _ _ change says) tt
    by_kind (Some kind.Meta) e change says =
        subst (λ c. IsAt area c places) (said_so _ _ change says) tt
    by_kind (Some kind.Policy) e change says =
        subst (λ c. IsAt area c places) (said_so _ _ change says)
        (flat_lone (lone 2 (kind_number version first.kind kind.Policy e) refl))
    by_kind (Some kind.PlainDocument) e change says =
        subst (λ c. IsAt area c places) (said_so _ _ change says)
        (text_by 3 (kind_number version first.kind kind.PlainDocument e))
    by_kind (Some kind.Document) e change says =
        subst (λ c. IsAt area c places) (said_so _ _ change says)
        (text_by 7 (kind_number version first.kind kind.Document e))
    by_kind (Some kind.LongDocument) e change says =
        subst (λ c. IsAt area c places) (said_so _ _ change says)
        (text_by 9 (kind_number version first.kind kind.LongDocument e))
    by_kind (Some kind.Piece) e change says = absurd (some_or_none change says)
    by_kind (Some kind.Gone) e change says =
        subst (λ c. IsAt area c places) (said_so _ _ change says) tt
    by_kind (Some kind.Base) e change says =
        subst (λ c. IsAt area c places) (said_so _ _ change says)
        (list_lone (lone 5 (kind_number version first.kind kind.Base e) refl))
    by_kind (Some kind.Delta) e wanted says =
        subst (λ c. IsAt area c places) (same_some
        (change.Delta first.key first.payload) wanted says)
        (list_lone (lone 6 (kind_number version first.kind kind.Delta e) refl))
    by_kind None e change says = absurd (some_or_none change says)

    pub told_is_at : IsAt area t.change places
    told_is_at = by_kind (kind_in version first.kind) refl t.change told.says

  -- ---- maps

  both_in : {X : Type 0} (pages : finite.FinMap nat_cmp X)
      (places : finite.FinMap nat_cmp (List Place)) (key : ℕ) (x : X) (new : List Place)
      (Q : X → List Place → Type 0)
      → ((n : ℕ) (y : X) → finite.get pages n ≡ Some y → (at : List Place)
      × (finite.get places n ≡ Some at) × Q y at) → Q x new
      → (n : ℕ) (y : X) → finite.get (finite.insert pages key x) n ≡ Some y → (at : List Place)
      × (finite.get (finite.insert places key new) n ≡ Some at) × Q y at
  both_in pages places key x new Q before one n y found =
      ⊎_elim
      (λ (same : n ≡ key).
      let is : x ≡ y = same_some x y (sym (get_inserted pages key x)
      ∙ ap (finite.get (finite.insert pages key x)) (sym same) ∙ found) in (
        new,
        ap (finite.get (finite.insert places key new)) same
            ∙ get_inserted places key new,
        subst (λ z. Q z new) is one,
      ))
      (λ (apart : n ≡ key → ⊥).
      let old = before n y (sym (get_not_inserted pages key n x apart) ∙ found) in
      (old.0, get_not_inserted places key n new apart ∙ old.1, old.2))
      (cases_eq n key)

  both_out : {X : Type 0} (pages : finite.FinMap nat_cmp X)
      (places : finite.FinMap nat_cmp (List Place)) (key : ℕ) (Q : X → List Place → Type 0)
      → ((n : ℕ) (y : X) → finite.get pages n ≡ Some y → (at : List Place)
      × (finite.get places n ≡ Some at) × Q y at)
      → (n : ℕ) (y : X) → finite.get (finite.remove pages key) n ≡ Some y → (at : List Place)
      × (finite.get (finite.remove places key) n ≡ Some at) × Q y at
  both_out pages places key Q before n y found =
      ⊎_elim
      (λ (same : n ≡ key). absurd (some_or_none y
      (sym (get_removed pages key) ∙ ap (finite.get (finite.remove pages key)) (sym same)
      ∙ found)))
      (λ (apart : n ≡ key → ⊥).
      let old = before n y (sym (get_not_removed pages key n apart) ∙ found) in
      (old.0, get_not_removed places key n apart ∙ old.1, old.2))
      (cases_eq n key)

  -- ---- term pages

  abbrev at_page : List (List Place) → ℕ → List Place
  at_page places n = get_or places n []

  base_there : (page : ℕ) (new : List Place) (places : List (List Place)) → (page < length places)
      ⊎ (page ≡ length places) → at_page (with_base_places page new places) page ≡ new
  base_there page new places (inl h) =
      ap (λ ps. at_page ps page) (cond-true (nat_lt page (length places))
      (slice_set places page new) (places ++ new ∷ []) (lt-ltb page (length places) h))
      ∙ get_or-set_same places page new [] h
  base_there page new places (inr e) =
      ap (λ ps. at_page ps page) (cond-false (nat_lt page (length places))
      (slice_set places page new) (places ++ new ∷ [])
      (le-ltb page (length places) (omega arith)))
      ∙ ap (at_page (places ++ new ∷ [])) e ∙ get_or-append_seam places new [] []

  base_other : (page : ℕ) (new : List Place) (places : List (List Place)) (n : ℕ)
      → (page < length places) ⊎ (page ≡ length places) → n ≢ page
      → at_page (with_base_places page new places) n ≡ at_page places n
  base_other page new places n (inl h) apart =
      ap (λ ps. at_page ps n) (cond-true (nat_lt page (length places)) (slice_set places page new)
      (places ++ new ∷ []) (lt-ltb page (length places) h))
      ∙ get_or-set_other places page n new [] apart
  base_other page new places n (inr e) apart =
      ap (λ ps. at_page ps n) (cond-false (nat_lt page (length places)) (slice_set places page new)
      (places ++ new ∷ []) (le-ltb page (length places) (omega arith)))
      ∙ ⊎_elim
      (λ (h : n < length places). get_or_append_left places (new ∷ []) [] n h)
      (λ (h : length places ≤ n).
      let past : length places < n = ⊎_elim (λ (same : n ≡ page). absurd (apart same))
      (λ (other : n ≡ page → ⊥). above n h other) (cases_eq n page) in
      get_or_past (places ++ new ∷ []) n [] (omega (arith, past, length-append places (new ∷ [])))
      ∙ sym (get_or_past places n [] h))
      (cases_lt n (length places))
    where
      above : (m : ℕ) → length places ≤ m → (m ≡ page → ⊥) → length places < m
      above m h other = ⊎_elim (λ (is : m ≡ length places). absurd (other (is ∙ sym e)))
          (λ (o : (m < length places) ⊎ (length places < m)). ⊎_elim
          (λ (l : m < length places). omega arith) (λ (l : length places < m). l) o)
          (cases_order m (length places))

  base_many : {A B : Type 0} (page : ℕ) (xs : List A) (x : A) (ys : List B) (y : B) → length xs
      ≡ length ys
      → length (if nat_lt page (length xs) then slice_set xs page x else xs ++ x ∷ [])
      ≡ length (if nat_lt page (length ys) then slice_set ys page y else ys ++ y ∷ [])
  base_many page xs x ys y same =
      by_test (nat_lt page (length xs)) (nat_lt page (length ys)) (ap (nat_lt page) same)
    where
      by_test : (b c : Bool) → b ≡ c → length (if b then slice_set xs page x else xs ++ x ∷ [])
          ≡ length (if c then slice_set ys page y else ys ++ y ∷ [])
      by_test true true e = length-set xs page x ∙ same ∙ sym (length-set ys page y)
      by_test true false e = absurd cc
      by_test false true e = absurd cc
      by_test false false e =
          omega (arith, same, length-append xs (x ∷ []), length-append ys (y ∷ []))

  -- what the places of a page are
  abbrev PageAt : ℕ → List (List Place) → List TermPage → Type 0
  PageAt n places pages = map (payload_at area) (at_page places n) ≡ term_parts (term_page n pages)

  pages_at : (places new : List (List Place)) (pages after : List TermPage) (key : ℕ)
      → ((n : ℕ) → PageAt n places pages) → PageAt key new after
      → ((n : ℕ) → n ≢ key → at_page new n ≡ at_page places n)
      → ((n : ℕ) → n ≢ key → term_page n after ≡ term_page n pages) → (n : ℕ)
      → PageAt n new after
  pages_at places new pages after key before one other_places other_pages n =
      ⊎_elim
      (λ (same : n ≡ key). subst (λ m. PageAt m new after) (sym same) one)
      (λ (apart : n ≡ key → ⊥). ap (map (payload_at area)) (other_places n apart) ∙ before n
      ∙ ap term_parts (sym (other_pages n apart)))
      (cases_eq n key)

  -- ---- one change more

  one_more : (change : Change) (new : List Place) (before : Contents) (places : PagePlaces)
      → is_allowed change before ≡ true → IsAt area change new → ArePlaced area before places
      → ArePlaced area (with_change change before) (with_places change new places)
  one_more (change.Meta numbers) new before places allowed is placed =
      record {
        policies = placed.policies;
        documents = placed.documents;
        many = placed.many;
        terms = placed.terms;
      }
  one_more (change.Policy number text) new before places allowed is placed = record {
    policies = both_in before.policies places.policies number text new
        (λ t at. flat_map (payload_at area) at ≡ t) placed.policies is;
    documents = placed.documents;
    many = placed.many;
    terms = placed.terms;
  }
  one_more (change.Document number written) new before places allowed is placed = record {
    policies = placed.policies;
    documents = both_in before.documents places.documents number (stored number written) new
        (λ (d : Stored) at. text_at area at ≡ d.text) placed.documents is;
    many = placed.many;
    terms = placed.terms;
  }
  one_more (change.Gone number) new before places allowed is placed = record {
    policies = placed.policies;
    documents = both_out before.documents places.documents number
        (λ (d : Stored) at. text_at area at ≡ d.text) placed.documents;
    many = placed.many;
    terms = placed.terms;
  }
  one_more (change.Base page payload) new before places allowed is placed =
      let place = base_place page payload before.terms allowed in
      let here : (page < length places.terms) ⊎ (page ≡ length places.terms) =
      subst (λ n. (page < n) ⊎ (page ≡ n)) (sym placed.many) place in
      record {
        policies = placed.policies;
        documents = placed.documents;
        many = base_many page places.terms new before.terms (with_base payload) placed.many;
        terms = pages_at places.terms (with_base_places page new places.terms) before.terms
            (after_base page payload before.terms) page placed.terms
            (ap (map (payload_at area)) (base_there page new places.terms here) ∙ is
            ∙ ap term_parts (sym (put_there page (with_base payload) before.terms place)))
            (λ n apart. base_other page new places.terms n here apart)
            (λ n apart. put_other page (with_base payload) before.terms n place apart);
      }
  one_more (change.Delta page payload) new before places allowed is placed =
      let old : TermPage = term_page page before.terms in
      let there : page < length before.terms = ltb-true page (length before.terms) allowed in
      let here : page < length places.terms = omega (arith, there, placed.many) in
      record {
        policies = placed.policies;
        documents = placed.documents;
        many = length-set places.terms page (at_page places.terms page ++ new) ∙ placed.many
            ∙ sym (length-set before.terms page (with_delta payload old));
        terms = pages_at places.terms (with_delta_places page new places.terms) before.terms
            (after_delta page payload before.terms) page placed.terms
            (ap (map (payload_at area)) (get_or-set_same places.terms page
            (at_page places.terms page ++ new) [] here)
            ∙ map-append (payload_at area) (at_page places.terms page) new
            ∙ ap (λ front. front ++ map (payload_at area) new) (placed.terms page)
            ∙ ap (λ back. term_parts old ++ back) is
            ∙ append_assoc (option_to_list old.base) old.deltas (payload ∷ [])
            ∙ ap term_parts (sym (get_or-set_same before.terms page
            (with_delta payload old) no_term_page there)))
            (λ n apart. get_or-set_other places.terms page n (at_page places.terms page ++ new)
            [] apart)
            (λ n apart. set_other page (with_delta payload old) before.terms n apart);
      }

  -- each is at its places
  abbrev EachAt : List Told → Type 0
  EachAt told = AllByRecursion (λ (t : Told). IsAt area t.change
      (places_from t.at (item_parts t.item))) told

  pub placed_after : (told : List Told) (before after : Contents) (places : PagePlaces)
      → after_changes (changes_of told) before ≡ Some after → EachAt told
      → ArePlaced area before places
      → ArePlaced area after (places_after told places)
  placed_after [] before after places lead each placed =
      subst (λ c. ArePlaced area c places) (same_some before after lead) placed
  placed_after (t ∷ told) before after places lead each placed =
      let step = first_step t.change (changes_of told) before after lead in
      let is = made t.change before step.between step.first in
      let new : List Place = places_from t.at (item_parts t.item) in
      placed_after told step.between after (with_places t.change new places) step.others each.1
      (subst (λ c. ArePlaced area c (with_places t.change new places)) (sym is.is)
      (one_more t.change new before places is.allowed each.0 placed))

  only_page : (n : ℕ) → PageAt n no_places.terms no_contents.terms
  only_page zero = refl
  only_page (suc n) =
      ap (map (payload_at area)) (get_or_past ([] ∷ []) (suc n) [] (omega arith))
      ∙ ap term_parts (sym (get_or_past (no_term_page ∷ []) (suc n) no_term_page (omega arith)))

  pub nothing_placed : ArePlaced area no_contents no_places
  nothing_placed = record {
    policies = λ n text found. absurd (some_or_none text
        (sym (finite.get-empty nat_cmp n) ∙ found));
    documents = λ n document found. absurd (some_or_none document
        (sym (finite.get-empty nat_cmp n) ∙ found));
    many = refl;
    terms = only_page;
  }

-- ---- an area

each_told : (version at : ℕ) (told : List Told) → AreTold version at told
    → AllByRecursion (λ (t : Told). IsTold version t.at t) told
each_told version at [] are = tt
each_told version at (t ∷ told) are = (
  record { at_is = refl; item = are.0.item; says = are.0.says },
  each_told version
      (at + length (item_bytes t.item)) told are.1,
)

each_told_on : (version : ℕ) (frames : List (List ℕ)) (at : ℕ) (told : List Told)
    → TellOn version frames at told → AllByRecursion (λ (t : Told). IsTold version t.at t) told
each_told_on version [] at told tell =
    subst (AllByRecursion (λ (t : Told). IsTold version t.at t)) (sym tell) tt
each_told_on version (frame ∷ frames) at told (first, others, is, begins, more) =
    subst (AllByRecursion (λ (t : Told). IsTold version t.at t)) (sym is)
    (all_joined (λ (t : Told). IsTold version t.at t) first others
    (each_told version (at + 9) first begins.are)
    (each_told_on version frames (at + 9 + length frame) others more))

each_at : (area : List ℕ) (version : ℕ) (told : List Told)
    → AllByRecursion (λ (t : Told). IsTold version t.at t) told
    → AllByRecursion (IsStanding area) told → EachAt area told
each_at area version [] are stand = tt
each_at area version (t ∷ told) are stand =
    (told_is_at area version t t.at are.0 stand.0, each_at area version told are.1 stand.1)

pub placed_in : (newest : ℕ) (slot : Counting) (frames : List (List ℕ)) (told : List Told)
    (contents : Contents) (image : Image)
    → IsLive newest slot frames image → TellOn slot.version frames 0 told
    → Lead told no_contents contents
    → ArePlaced (list_of slot.area image) contents (places_after told no_places)
placed_in newest slot frames told contents image live tell lead =
    let area : List ℕ = list_of slot.area image in
    placed_after area told no_contents contents no_places lead
    (each_at area slot.version told (each_told_on slot.version frames 0 told tell)
    (stand_on slot.version frames 0 told area [] live.has.rest tell refl live.has.spelled))
    (nothing_placed area)
